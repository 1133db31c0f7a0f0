-- Laws of the soundness rules: the rule list, the facts of a sound table, the blank table, when two sound tables are the same.
-- Assumes nothing.
pub mod Parts
pub mod Faults
pub mod SoundIs
pub mod Blank
pub mod Same
pub mod Checked
pub mod Unique
