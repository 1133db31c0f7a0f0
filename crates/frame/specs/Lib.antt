-- The message frame.
-- Assumes nothing.
pub mod Frame
pub mod Readers
pub mod Refusals
