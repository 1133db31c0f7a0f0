-- The links of a record, read by themselves.
-- Assumes nothing.
pub mod Links
