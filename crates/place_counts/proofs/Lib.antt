-- Laws of tables of either count, and that the check has one outcome.
-- Assumes nothing.
pub mod Counts
pub mod Unique
