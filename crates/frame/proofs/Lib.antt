-- Laws of the frame, for its readers and for those above; what its answers say; no second answer; worked cases.
-- Assumes nothing. Those above use Frame (where an accepted request's batch items stand) and Bounds.
pub mod Frame
pub mod Bounds
pub mod Refusals
pub mod Unique
pub mod Worked
