-- Every change to a sound table leaves it sound: one store, a birth, each operation's change, a new latest clock and what is due by it.
-- Assumes nothing.
pub mod Stores
pub mod Edits
pub mod Births
pub mod Begun
pub mod Moved
pub mod Keeps
pub mod Leaves
pub mod Dates
