-- The laws of faults.
-- Assumes nothing.
pub mod Faults
pub mod Unique
