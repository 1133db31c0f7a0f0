-- The tags.
-- Assumes nothing.
pub mod Tags
