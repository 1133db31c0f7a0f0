-- The cases with names, keys and limits hold.
-- Assumes nothing.
pub mod Cases
