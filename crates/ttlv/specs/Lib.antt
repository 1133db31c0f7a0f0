-- TTLV: items, writing and reading.
-- Assumes nothing.
pub mod Items
pub mod Parse
pub mod Tree
