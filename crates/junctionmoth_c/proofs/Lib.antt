-- The archive for C: that a call has one outcome.
-- Assumes nothing.
pub mod Unique
