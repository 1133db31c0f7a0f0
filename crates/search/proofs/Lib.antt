-- The laws of searches: the lowest place that passes a test, a record by its serial, where a new key goes.
-- Assumes nothing.
pub mod First
pub mod Finds
pub mod Unique
