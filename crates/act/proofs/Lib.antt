-- The laws of an item carried out.
-- Assumes nothing.
pub mod Went
pub mod Plans
pub mod Reasons
pub mod Returns
pub mod Unique
