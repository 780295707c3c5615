-- The definitions that contracts cite of a plate's numbers.
pub mod Numbers
