-- The steps of readers of runs, and that no second answer satisfies a contract.
-- Assumes nothing.
pub mod Steps
pub mod Sizes
pub mod Starts
pub mod Words
pub mod Unique
