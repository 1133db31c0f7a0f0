-- The laws of the stored table: the bytes of a record, places and stores, the lead, the blank table, when two tables are the same.
-- Assumes nothing.
pub mod Lines
pub mod Places
pub mod Lead
pub mod Blank
pub mod Same
pub mod Unique
