-- What the demands are made of, worked out.
-- Assumes nothing.
pub mod Worked
