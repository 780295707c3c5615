-- What the blur on four planes answers.
pub mod Outcome
