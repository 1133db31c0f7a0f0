-- What an item leaves, by the plan of its operation.
-- Assumes nothing.
pub mod Plans
