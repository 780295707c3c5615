-- What a list of points holds.
pub mod Points
