-- No second outcome of the writer of numbers. The laws of all writers stand in ttlv_write.
-- Assumes nothing.
pub mod Unique
