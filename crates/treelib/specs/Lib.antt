-- Where a message is malformed, and which bytes of a text are printed escaped.
-- Assumes nothing.
pub mod Malformed
pub mod Escapes
