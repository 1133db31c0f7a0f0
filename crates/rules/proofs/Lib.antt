-- The laws of tests, transitions and grants.
-- Assumes nothing.
pub mod Tests
pub mod States
pub mod Grants
pub mod Said
pub mod Unique
pub mod Listed
pub mod Moves
