-- Locate.
-- Assumes nothing.
pub mod Locate
