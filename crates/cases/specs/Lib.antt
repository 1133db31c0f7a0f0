-- The worked cases that 01 marks P, over the definitions.
-- Assumes nothing.
pub mod Cards
