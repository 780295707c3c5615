-- What is to hold of the whole-number profile.
pub mod Same
pub mod Between
pub mod Calls
