-- The numbers of refusals: each names one, and what a caller is told has one outcome.
-- Assumes nothing.
pub mod Numbers
pub mod Unique
