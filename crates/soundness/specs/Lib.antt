-- What makes a stored table sound.
-- Assumes nothing.
pub mod Sound
pub mod Checked
