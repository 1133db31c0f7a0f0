-- The laws of thirty-two bytes as four numbers.
-- Assumes nothing.
pub mod Laws
pub mod Unique
