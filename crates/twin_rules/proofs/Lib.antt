-- The laws of the rules that two places break together, and the uniqueness of the answers.
-- Assumes nothing.
pub mod Alone
pub mod Serials
pub mod NameTwins
pub mod Unique
