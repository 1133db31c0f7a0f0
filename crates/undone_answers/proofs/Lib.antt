-- The laws of the answers of a batch that failed: what is said of an item, and the loop that writes them.
-- Assumes nothing.
pub mod Undone
pub mod Telling
pub mod Unique
