-- Hex digits, and bytes written as hex.
-- Assumes nothing.
pub mod Hex
pub mod Texts
