-- Bytes as text in lines.
-- Assumes nothing.
pub mod Lines
