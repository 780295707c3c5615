-- The definitions that contracts cite of writing plates.
pub mod Added
pub mod Outcome
pub mod Steps
