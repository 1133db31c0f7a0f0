-- A batch carried out and answered item by item.
-- Assumes nothing.
pub mod Batch
pub mod Runs
