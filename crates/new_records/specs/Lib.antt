-- How a record begins.
-- Assumes nothing.
pub mod New
