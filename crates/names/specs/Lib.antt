-- Names: as they are stored, and as text.
-- Assumes nothing.
pub mod Names
