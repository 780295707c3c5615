-- Laws of sums of bytes in numerators, and of what the lanes of a run read, for this crate's proofs and for those above it.
pub mod Examples
pub mod Sums
pub mod Local
mod Lanes
