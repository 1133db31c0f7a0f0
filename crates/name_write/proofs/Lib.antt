-- The laws of the writer of names, and the uniqueness theorem.
-- Assumes nothing.
pub mod Texts
pub mod Unique
