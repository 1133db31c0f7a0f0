-- The case on a table of 256 places, by computation.
-- Assumes nothing.
pub mod Cases
