-- Worked cases of responses, and the laws of responses.
-- Assumes nothing.
pub mod Worked
pub mod Tests
pub mod Fields
pub mod Links
pub mod Dates
pub mod Names
pub mod Limits
pub mod Payloads
pub mod Keys
pub mod Outcomes
pub mod Answers
pub mod Sizes
pub mod Front
pub mod Well
pub mod One
