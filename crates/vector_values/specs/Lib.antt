-- Numbers in a text, and what a vector's numbers stand for.
pub mod Numerals
pub mod Values
