-- A case on a table of 256 places.
-- Assumes nothing.
pub mod Cards
