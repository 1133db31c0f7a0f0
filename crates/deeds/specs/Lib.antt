-- What is asked of the record at a place.
-- Assumes nothing.
pub mod Deeds
