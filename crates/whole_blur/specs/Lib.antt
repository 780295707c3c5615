-- What the whole-number blur is, and what its entry answers.
pub mod Blurred
pub mod Needs
pub mod Outcome
