-- What a shift is, what its steps make of the bytes, and what its entry answers.
pub mod Shift
pub mod Bytes
pub mod Outcome
