-- What may happen to a record: numbers, tests, transitions, grants.
-- Assumes nothing.
pub mod Numbers
pub mod Tests
pub mod States
pub mod Said
