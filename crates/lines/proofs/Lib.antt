-- Laws of lines.
-- Assumes nothing.
pub mod Lines
pub mod Unique
