-- A batch on a sound table leaves a sound table, and its answers are those of a response.
-- Assumes nothing.
pub mod Commands
pub mod Steps
pub mod Batches
pub mod Settled
