-- The sizes of a call, worked out.
-- Assumes nothing.
pub mod Worked
