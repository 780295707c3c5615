-- The definitions that contracts cite of rebuilding a picture.
pub mod Restored
pub mod Outcome
