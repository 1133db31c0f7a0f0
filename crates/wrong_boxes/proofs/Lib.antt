-- Calls that the boxes are given, tables that are filled, and what demand 2 asks of a box: what the refutations share.
-- Assumes nothing.
pub mod Calling
pub mod Given
pub mod Filling
pub mod Due
pub mod Ending
