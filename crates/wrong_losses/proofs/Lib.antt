-- Boxes that lose a name, or say what nobody asked for.
-- Assumes nothing.
pub mod Losing
pub mod Telling
