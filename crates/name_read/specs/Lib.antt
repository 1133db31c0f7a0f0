-- Names, read from items.
-- Assumes nothing.
pub mod Name
pub mod Reasons
