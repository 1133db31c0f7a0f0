-- Runs of items.
-- Assumes nothing.
pub mod Runs
