-- The values that a key may have.
-- Assumes nothing.
pub mod Values
