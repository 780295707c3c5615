-- Laws of halving and doubling levels, for this crate's proofs.
pub mod Levels
mod Fronts
