-- The laws of a batch: its items, their answers, and the loop over them.
-- Assumes nothing.
pub mod Left
pub mod Written
pub mod Item
pub mod Turns
pub mod Unique
