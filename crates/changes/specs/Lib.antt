-- The changes of a record, and of the table that it stands in.
-- Assumes nothing.
pub mod Records
pub mod Changes
pub mod Dates
