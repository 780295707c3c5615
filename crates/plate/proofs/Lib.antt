-- Laws of the definitions of specs/, for this crate's proofs and for those above it.
pub mod Settle
pub mod Determined
pub mod Earlier
