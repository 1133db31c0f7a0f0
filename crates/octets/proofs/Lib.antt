-- The laws that every layer shares.
-- Assumes nothing.
pub mod If
pub mod Bools
pub mod Maybe
pub mod Numbers
pub mod Stores
pub mod Words
pub mod Over
pub mod All
pub mod Zeros
pub mod Unique
