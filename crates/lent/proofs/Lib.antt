-- Laws of bytes that are written, and that each outcome is unique.
-- Assumes nothing.
pub mod Fills
pub mod Unique
