-- The definitions that contracts cite of changes in a table.
pub mod Outcome
