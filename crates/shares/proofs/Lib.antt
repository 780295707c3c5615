-- Laws of the share of one input.
pub mod Examples
pub mod Determined
