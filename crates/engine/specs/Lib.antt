-- The whole outcome of a call.
-- Assumes nothing.
pub mod Serving
pub mod Calls
