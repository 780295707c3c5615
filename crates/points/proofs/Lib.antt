-- Laws of points.
pub mod Points
pub mod Rows
pub mod Turns
