-- Laws of the definitions of specs/.
pub mod Numerals
pub mod Patterns
