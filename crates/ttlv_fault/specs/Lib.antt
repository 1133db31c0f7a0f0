-- Where bytes differ from the rules of TTLV.
-- Assumes nothing.
pub mod Fault
