-- Laws of a plate's numbers, and of refusals.
pub mod Versions
pub mod Refused
