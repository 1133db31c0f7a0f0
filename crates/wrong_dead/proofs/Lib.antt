-- Boxes that grant units of what is dead, or replace it.
-- Assumes nothing.
pub mod Spending
pub mod Renewing
