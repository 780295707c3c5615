-- The definitions that contracts cite of pairs of words.
pub mod Pairs
