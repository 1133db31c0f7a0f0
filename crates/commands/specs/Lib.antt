-- The commands of a script, and the setting that they change.
-- Assumes nothing.
pub mod Commands
