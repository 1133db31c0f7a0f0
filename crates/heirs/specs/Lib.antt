-- How a record is replaced.
-- Assumes nothing.
pub mod Heirs
