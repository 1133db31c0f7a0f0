-- The laws of plans.
-- Assumes nothing.
pub mod Plans
pub mod Unique
