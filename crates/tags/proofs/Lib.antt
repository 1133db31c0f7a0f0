-- That the test of a tag has one answer.
-- Assumes nothing.
pub mod Unique
