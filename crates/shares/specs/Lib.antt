-- The definitions that contracts cite of the share of one input.
pub mod Outcome
