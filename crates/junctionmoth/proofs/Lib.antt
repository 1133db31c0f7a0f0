-- The C boundary: its law, and that a call has one outcome.
-- Assumes nothing.
pub mod Calls
pub mod Unique
