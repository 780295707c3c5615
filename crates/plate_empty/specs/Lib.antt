-- The definitions that contracts cite of starting a plate.
pub mod Outcome
