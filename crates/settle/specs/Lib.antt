-- A batch under its option: what is left of it, and what the second buffer holds.
-- Assumes nothing.
pub mod Undo
pub mod Trials
pub mod Said
