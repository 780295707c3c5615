-- A picture as four planes, and what converting it answers.
pub mod Planar
pub mod Places
pub mod Outcome
