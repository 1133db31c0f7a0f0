-- The links of a record, and the uniqueness of what is read; the laws of records and places are those of `table`.
-- Assumes nothing.
pub mod Links
pub mod Unique
