-- Identifier text.
-- Assumes nothing.
pub mod Identifier
pub mod Words
