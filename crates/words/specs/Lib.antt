-- Thirty-two bytes as four numbers.
-- Assumes nothing.
pub mod Words
