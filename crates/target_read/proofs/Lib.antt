-- Laws of the target, what the reader's answer says, that no second outcome satisfies its contract, and worked cases.
-- Assumes nothing.
pub mod Targets
pub mod Reasons
pub mod Unique
pub mod Worked
