-- The laws of the fields of a run.
-- Assumes nothing.
pub mod Found
pub mod Lift
pub mod Runs
pub mod Starts
pub mod Unique
