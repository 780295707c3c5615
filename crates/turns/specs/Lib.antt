-- The definitions that contracts cite of lines that are turned.
pub mod Turned
