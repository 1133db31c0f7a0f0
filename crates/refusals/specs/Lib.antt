-- The refusals that are not the frame's.
-- Assumes nothing.
pub mod Refusals
