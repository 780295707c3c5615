-- Laws of blended bytes and of the outputs that they are, for this crate's proofs.
pub mod Tapped
pub mod Pixels
pub mod Places
pub mod Outputs
pub mod Pairs
