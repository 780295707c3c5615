-- The definitions that contracts cite of the points of an output.
pub mod Points
pub mod Needs
