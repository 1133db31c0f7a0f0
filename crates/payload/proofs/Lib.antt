-- Laws of the payload readers, what their answers say, that no second outcome satisfies a contract, and worked cases.
-- Assumes nothing.
pub mod Offsets
pub mod Locate
pub mod Commands
pub mod Reasons
pub mod Unique
pub mod Worked
