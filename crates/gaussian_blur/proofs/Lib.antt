-- Laws of the blur of a level and of what the entry leaves.
pub mod Step
pub mod Outcomes
pub mod Determined
