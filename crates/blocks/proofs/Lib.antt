-- Laws of blocks, for this crate's proofs and for those above it.
pub mod Progress
pub mod Places
mod Values
