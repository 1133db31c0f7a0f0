-- What writing a read message again leaves.
-- Assumes nothing.
pub mod Again
