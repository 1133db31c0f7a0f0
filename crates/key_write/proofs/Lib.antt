-- The writer of a key that is handed out: no second outcome.
-- Assumes nothing.
pub mod Material
pub mod Unique
