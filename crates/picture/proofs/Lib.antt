-- Laws of the definitions of specs/, for this crate's proofs and for those above it.
pub mod Tests
pub mod Quarter
pub mod Sizes
pub mod Levels
pub mod Build
pub mod Planes
pub mod Placed
pub mod Walk
pub mod Spans
pub mod Filled
pub mod Passed
pub mod Answers
pub mod Refused
pub mod Settled
pub mod Conditions
