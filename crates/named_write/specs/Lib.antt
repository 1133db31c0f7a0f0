-- What a writer of items leaves in its room.
-- Assumes nothing.
pub mod Puts
