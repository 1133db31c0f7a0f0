-- The search for a name.
-- Assumes nothing.
pub mod Names
