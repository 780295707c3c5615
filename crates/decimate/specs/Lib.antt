-- The definitions that contracts cite of halving and doubling levels.
pub mod Rows
pub mod Room
