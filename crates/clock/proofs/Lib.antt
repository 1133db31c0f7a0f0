-- Laws of signed numbers, and that the answer is unique.
-- Assumes nothing.
pub mod Signs
pub mod Unique
