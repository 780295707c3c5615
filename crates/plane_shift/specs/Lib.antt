-- Four planes moved, and what the entry answers.
pub mod Shifted
