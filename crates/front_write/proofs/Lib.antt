-- The uniqueness of what is written in front of the answers.
-- Assumes nothing.
pub mod Unique
