-- The definitions that contracts cite of lines worked out backwards.
pub mod Needs
