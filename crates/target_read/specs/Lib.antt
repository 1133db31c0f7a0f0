-- The target of an item, read from items and from bytes.
-- Assumes nothing.
pub mod Target
pub mod Readers
pub mod Reasons
