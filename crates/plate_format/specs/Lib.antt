-- The definitions that contracts cite of a plate file.
pub mod Format
pub mod Needs
