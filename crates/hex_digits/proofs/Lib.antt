-- Laws of hex digits.
-- Assumes nothing.
pub mod Digits
pub mod Unique
pub mod Worked
