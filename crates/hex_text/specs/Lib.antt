-- Bytes written as hex.
-- Assumes nothing.
pub mod Bytes
