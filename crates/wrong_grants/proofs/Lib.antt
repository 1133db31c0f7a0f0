-- Boxes that grant units that nobody has.
-- Assumes nothing.
pub mod Granting
pub mod Reaching
pub mod Regranting
