-- The definitions that the examples' contracts cite.
pub mod Pixels
pub mod Told
