-- The laws of a batch under its option: the try, and what is left.
-- Assumes nothing.
pub mod Undo
pub mod Trying
pub mod Settling
pub mod Unique
pub mod Said
