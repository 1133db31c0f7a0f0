-- The last field of a run, as its bytes have it.
-- Assumes nothing.
pub mod Last
