-- The laws of written items: their sizes, how puts make one, and how one is written behind another.
-- Assumes nothing.
pub mod Sizes
pub mod Puts
pub mod Holds
pub mod Unique
