-- Laws of the answers that C gets.
pub mod Sides
