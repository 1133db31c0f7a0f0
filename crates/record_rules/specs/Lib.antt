-- The soundness rules of a record by itself.
-- Assumes nothing.
pub mod Rules
pub mod Checked
