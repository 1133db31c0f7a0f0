-- Laws of the readers of attributes, what their answers say, that no second outcome satisfies a contract, and worked cases.
-- Assumes nothing.
pub mod Given
pub mod Reasons
pub mod Unique
pub mod Worked
