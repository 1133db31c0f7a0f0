-- Responses: the answers as items, and the items read back.
-- Assumes nothing.
pub mod Respond
pub mod Read
pub mod Front
