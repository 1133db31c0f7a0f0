-- The laws of the dates of a replacement, and the uniqueness of the answers.
-- Assumes nothing.
pub mod Heirs
pub mod Unique
