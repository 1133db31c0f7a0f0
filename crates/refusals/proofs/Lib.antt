-- The laws of the refusals, rung by rung.
-- Assumes nothing.
pub mod Early
pub mod Late
pub mod Unique
