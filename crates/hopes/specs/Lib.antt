-- What is hoped of a run beside the demands: dates that stand firm, and names that stay apart.
-- Assumes nothing.
pub mod Hope
pub mod Names
