-- The definitions that contracts cite of rows of numbers, and of passes worked out backwards.
pub mod Worth
pub mod Steps
