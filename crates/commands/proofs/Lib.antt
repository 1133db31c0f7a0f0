-- Laws of the place count of a line, and that each answer is unique.
-- Assumes nothing.
pub mod Places
pub mod Unique
