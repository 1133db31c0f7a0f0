-- The cases with option 3 hold.
-- Assumes nothing.
pub mod Cases
