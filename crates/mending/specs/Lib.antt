-- The definitions that contracts cite of mending a picture.
pub mod Changes
pub mod Outcome
