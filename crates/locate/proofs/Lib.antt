-- The laws of Locate, and the uniqueness theorem.
-- Assumes nothing.
pub mod Meets
pub mod Unique
