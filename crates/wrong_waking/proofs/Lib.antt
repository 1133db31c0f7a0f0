-- Boxes that wake a dead key, hand it out, or hand out the bytes of another key.
-- Assumes nothing.
pub mod Waking
pub mod Handing
