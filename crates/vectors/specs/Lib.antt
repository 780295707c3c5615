-- What makes some numbers a vector.
pub mod Shape
