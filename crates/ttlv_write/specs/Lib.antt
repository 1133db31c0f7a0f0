-- When an item is written.
-- Assumes nothing.
pub mod Writable
