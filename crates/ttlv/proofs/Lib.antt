-- The laws of TTLV.
-- Assumes nothing.
pub mod View
pub mod Put
pub mod Sizes
pub mod Turns
pub mod Spells
pub mod Fine
pub mod Back
pub mod Deeper
pub mod Well
pub mod Tree
pub mod Message
pub mod Step
pub mod One
pub mod Padding
pub mod Unique
pub mod Eight
