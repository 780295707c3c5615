-- Laws of arrays that are made by calls.
pub mod Filled
