-- What dates do to a state.
-- Assumes nothing.
pub mod Dates
