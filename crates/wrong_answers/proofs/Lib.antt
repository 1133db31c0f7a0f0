-- Boxes that answer wrongly, leave a wrong table or a wrong second buffer, and which demands they meet all the same.
-- Assumes nothing.
pub mod Answering
pub mod Harmless
pub mod Seconds
pub mod Placing
