-- Laws of identifier text.
-- Assumes nothing.
pub mod Digits
pub mod Lanes
pub mod Texts
pub mod Turns
pub mod Unique
pub mod Words
pub mod Worked
