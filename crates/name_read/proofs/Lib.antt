-- Laws of the readers of names, what their answers say, that no second outcome satisfies a contract, and worked cases.
-- Assumes nothing.
pub mod Read
pub mod Reasons
pub mod Unique
pub mod Worked
