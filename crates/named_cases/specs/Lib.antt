-- The cases of 02, L1, L6 and L9, over the definitions.
-- Assumes nothing.
pub mod Cards
