-- What a writer of answers deals in.
-- Assumes nothing.
pub mod Answers
