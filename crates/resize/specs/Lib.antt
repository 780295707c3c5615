-- The definitions that contracts cite of halving and doubling lines.
pub mod Resize
pub mod Room
