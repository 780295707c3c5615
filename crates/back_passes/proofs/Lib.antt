-- Laws of rows, of taps, and of passes backwards.
pub mod Worth
pub mod Taken
pub mod Carried
