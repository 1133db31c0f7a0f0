-- The commands of a script by their names.
-- Assumes nothing.
pub mod Verbs
