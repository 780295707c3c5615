-- Laws of a block's sums, for this crate's proofs and for those above it.
pub mod Taps
mod Bytes
