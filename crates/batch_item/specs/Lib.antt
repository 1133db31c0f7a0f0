-- The batch items of a request, and what their readers answer.
-- Assumes nothing.
pub mod Item
pub mod Readers
