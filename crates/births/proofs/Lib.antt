-- The laws of new objects.
-- Assumes nothing.
pub mod Places
pub mod Returns
pub mod Unique
