-- Laws of small numbers, the type table, and the uniqueness theorems.
-- Assumes nothing.
pub mod Small
pub mod Lengths
pub mod Unique
