-- The laws of bytes written as hex.
-- Assumes nothing.
pub mod Texts
pub mod Unique
