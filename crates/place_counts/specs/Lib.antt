-- Which place counts a table may say, and what makes a table of either right.
-- Assumes nothing.
pub mod Counts
