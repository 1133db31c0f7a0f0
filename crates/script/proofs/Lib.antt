-- Laws of what stands in a script, worked texts, and that each answer is unique.
-- Assumes nothing.
pub mod Numbers
pub mod Unique
pub mod Worked
