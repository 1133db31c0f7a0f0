-- The laws of material, and the uniqueness of the answers.
-- Assumes nothing.
pub mod Material
pub mod Unique
