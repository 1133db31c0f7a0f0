-- Laws of the rules of a record by itself: the facts behind them, and the uniqueness of the answers.
-- Assumes nothing.
pub mod Fit
pub mod Material
pub mod Unique
