-- The laws of last fields, the steps of readers that go from field to field, and that no second answer satisfies a contract.
-- Assumes nothing.
pub mod Steps
pub mod Unique
