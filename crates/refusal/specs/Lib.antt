-- The numbers of refusals.
-- Assumes nothing.
pub mod Numbers
