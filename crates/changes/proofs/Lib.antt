-- What a move and the sweep leave, and the uniqueness of the answers.
-- Assumes nothing.
pub mod Moves
pub mod Sweep
pub mod Unique
