-- The definitions that every layer shares: the one `if`, optional answers, and bytes.
-- Assumes nothing.
pub mod If
pub mod Maybe
pub mod Octets
