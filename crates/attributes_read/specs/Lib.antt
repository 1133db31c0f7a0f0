-- The attributes of a new key, read from items.
-- Assumes nothing.
pub mod Attributes
pub mod Reasons
