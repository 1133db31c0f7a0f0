-- What dates do to a state, case by case, and its uniqueness.
-- Assumes nothing.
pub mod Unique
pub mod Dating
