-- Text by RFC 3629.
-- Assumes nothing.
pub mod Text
pub mod Ranges
