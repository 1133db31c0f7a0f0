-- One batch item carried out: what it leaves, and that by parts.
-- Assumes nothing.
pub mod Act
pub mod Perform
