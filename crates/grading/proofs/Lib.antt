-- Laws of the definitions of specs/, for this crate's proofs and for those above it.
pub mod Whole
pub mod Accepted
pub mod Viewed
pub mod Places
pub mod Injective
pub mod Scanned
pub mod Determined
