-- What a writer of a TTLV item leaves in the room that it is lent.
-- Assumes nothing.
pub mod Write
