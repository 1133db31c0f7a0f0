-- What a call leaves, and the sizes that it keeps to.
-- Assumes nothing.
pub mod Effects
