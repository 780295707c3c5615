-- Laws of what the entry leaves.
pub mod Examples
pub mod Outcomes
pub mod Determined
