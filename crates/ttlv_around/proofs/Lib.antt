-- The laws of a structure around what a body writes.
-- Assumes nothing.
pub mod Around
pub mod Unique
