-- The boxes that 00 and 01 warn of.
-- Assumes nothing.
pub mod Wrong
