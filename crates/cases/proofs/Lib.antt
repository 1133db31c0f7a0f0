-- The worked cases hold.
-- Assumes nothing.
pub mod Cases
pub mod Tables
