-- The answers of a batch that failed under Undo.
-- Assumes nothing.
pub mod Undone
