-- How the writers of items compose, and an identifier that is written.
-- Assumes nothing.
pub mod Compose
pub mod Named
pub mod Unique
