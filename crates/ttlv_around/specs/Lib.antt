-- What a structure around what a body writes leaves in the room that it is lent.
-- Assumes nothing.
pub mod Around
