-- The C boundary.
-- Assumes nothing.
pub mod Boundary
