-- The parts of a key's attributes, and the uniqueness of what is written.
-- Assumes nothing.
pub mod Parts
pub mod Unique
