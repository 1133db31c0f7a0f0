-- The laws of a call: what answers it.
-- Assumes nothing.
pub mod Answers
pub mod Serves
pub mod Unique
