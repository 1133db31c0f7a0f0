-- The laws of the writers of each type, those of numbers among them: that their tests are the right ones, and a sample of how writes compose.
-- Assumes nothing.
pub mod Sample
pub mod Writable
pub mod Numbers
pub mod Unique
