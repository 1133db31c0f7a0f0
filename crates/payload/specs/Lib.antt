-- Payloads read as commands.
-- Assumes nothing.
pub mod Payload
pub mod Readers
pub mod Reasons
