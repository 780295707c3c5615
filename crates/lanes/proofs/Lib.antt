-- Laws of lanes, for this crate's proofs and for those above it.
pub mod Taps
pub mod Filled
mod Groups
