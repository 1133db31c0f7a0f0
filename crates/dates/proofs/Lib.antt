-- What each return of the functions of this crate leaves, and the uniqueness of what `begin` does; the laws of the sweep stand in `changes`.
-- Assumes nothing.
pub mod Returns
pub mod Unique
