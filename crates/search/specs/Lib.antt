-- Searches of the stored table.
-- Assumes nothing.
pub mod Search
