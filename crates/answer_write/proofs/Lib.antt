-- How the writers of answers compose.
-- Assumes nothing.
pub mod Success
pub mod Parts
pub mod Unique
