-- What it means that a contract leaves one outcome.
-- Assumes nothing.
pub mod Outcomes
