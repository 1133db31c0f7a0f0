-- The stored table: layout, records.
-- Assumes nothing.
pub mod Layout
pub mod Records
