-- The definitions that contracts cite of boxes.
pub mod Outcome
