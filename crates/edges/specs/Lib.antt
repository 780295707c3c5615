-- The definitions that contracts cite of an edge rule.
pub mod Edges
pub mod Whole
