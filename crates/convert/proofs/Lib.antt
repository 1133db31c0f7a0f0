-- The laws of the converter: runs of bodies, the same records in the old table and in the new one, and that both are sound alike.
-- Assumes nothing.
pub mod Bodies
pub mod Records
pub mod Sound
pub mod Converts
pub mod Unique
