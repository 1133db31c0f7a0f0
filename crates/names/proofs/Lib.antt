-- The laws of names.
-- Assumes nothing.
pub mod Stored
pub mod Same
pub mod Texts
pub mod Returns
pub mod Worked
pub mod Unique
