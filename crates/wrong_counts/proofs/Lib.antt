-- A box that says more units than there are.
-- Assumes nothing.
pub mod Inventing
