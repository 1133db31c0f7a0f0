-- The soundness rules that two places break together.
-- Assumes nothing.
pub mod Twins
pub mod Checked
