-- The definitions that contracts cite of area sums.
pub mod Area
pub mod Outcome
