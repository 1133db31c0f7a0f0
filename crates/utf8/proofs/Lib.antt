-- The laws of text, its worked edges, and the uniqueness theorem.
-- Assumes nothing.
pub mod Texts
pub mod Begins
pub mod Worked
pub mod Unique
