-- That the command of a word is unique.
-- Assumes nothing.
pub mod Unique
