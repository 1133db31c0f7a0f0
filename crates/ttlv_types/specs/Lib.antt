-- The types of TTLV.
-- Assumes nothing.
pub mod Types
