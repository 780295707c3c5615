-- Laws of boxes.
pub mod Conditions
