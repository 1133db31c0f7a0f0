-- The old table, what makes it sound, and the new table that it becomes.
-- Assumes nothing.
pub mod Old
pub mod OldSound
pub mod Convert
