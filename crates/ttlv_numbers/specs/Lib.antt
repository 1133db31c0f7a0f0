-- The value of a Boolean, and what numbers a type allows.
-- Assumes nothing.
pub mod Bit
pub mod Allowed
