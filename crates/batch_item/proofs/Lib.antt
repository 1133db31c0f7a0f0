-- Laws of the batch items, for their readers and for those above; no second answer.
-- Assumes nothing. Those above use Items (stepping), Item (the parts of one) and Bounds.
pub mod Item
pub mod Items
pub mod Found
pub mod Bounds
pub mod Unique
