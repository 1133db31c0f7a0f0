-- The cases of 02, L8, over the definitions.
-- Assumes nothing.
pub mod Cards
