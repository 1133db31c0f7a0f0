-- New objects in the table, by parts.
-- Assumes nothing.
pub mod Births
