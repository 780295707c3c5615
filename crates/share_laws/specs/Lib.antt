-- The share of an input in an output, and what is promised of shares.
pub mod Share
pub mod Explained
