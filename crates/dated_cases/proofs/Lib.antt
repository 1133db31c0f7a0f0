-- The cases with dates hold.
-- Assumes nothing.
pub mod Cases
