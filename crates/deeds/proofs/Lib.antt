-- The laws of what is done to a record at its place.
-- Assumes nothing.
pub mod Returns
pub mod Unique
