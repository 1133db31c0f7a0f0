-- The laws of items written again.
-- Assumes nothing.
pub mod Values
pub mod Front
pub mod Walk
pub mod Unique
