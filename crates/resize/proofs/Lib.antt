-- Laws of halving and doubling lines, for this crate's proofs.
pub mod Sizes
pub mod Outputs
