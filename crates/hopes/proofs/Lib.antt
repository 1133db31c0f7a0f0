-- The hope and the names, for every box that meets the demands, and for ours.
-- Assumes nothing.
pub mod Worked
pub mod Firm
pub mod Idle
pub mod Hoped
pub mod Named
