-- How a script starts.
-- Assumes nothing.
pub mod Usual
