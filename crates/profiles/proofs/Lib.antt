-- Laws of the whole-number profile.
pub mod Weights
pub mod Same
pub mod Answers
pub mod Between
pub mod Calls
pub mod Examples
