-- The definitions that contracts cite of a picture of a plate.
pub mod Lookup
