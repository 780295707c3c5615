-- Laws of the definitions of specs/, for this crate's proofs and for those above it.
pub mod Moments
pub mod Scales
pub mod Levels
pub mod Injective
pub mod Determined
pub mod Examples
