-- Boxes that turn a clock back, or keep what was undone.
-- Assumes nothing.
pub mod Turning
pub mod Undoing
