-- Laws of the edge rules, for this crate's proofs and for those above it.
pub mod Places
pub mod Samples
pub mod Whole
pub mod Raised
pub mod Examples
