-- The uniqueness of the answers.
-- Assumes nothing.
pub mod Unique
