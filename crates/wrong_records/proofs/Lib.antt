-- Boxes that touch a table or a record that nothing named.
-- Assumes nothing.
pub mod Touching
