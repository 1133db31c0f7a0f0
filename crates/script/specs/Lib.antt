-- What stands in the lines of a script.
-- Assumes nothing.
pub mod Numbers
