-- The laws of the search for a name, and the uniqueness theorem.
-- Assumes nothing.
pub mod Finds
pub mod Unique
