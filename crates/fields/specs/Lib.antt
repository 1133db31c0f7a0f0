-- The fields of a run: of its items, and as its bytes have them.
-- Assumes nothing.
pub mod Fields
pub mod Found
