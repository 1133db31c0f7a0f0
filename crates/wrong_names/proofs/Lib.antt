-- A box that answers a Locate with another key.
-- Assumes nothing.
pub mod Locating
