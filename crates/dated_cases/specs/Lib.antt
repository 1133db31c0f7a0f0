-- The cases of 02, L3 and L4, over the definitions.
-- Assumes nothing.
pub mod Cards
