-- What the shadow on four planes answers, and the places of a pixel in them.
pub mod Places
pub mod Outcome
