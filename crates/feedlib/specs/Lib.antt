-- What stands in front of a call.
-- Assumes nothing.
pub mod Head
