-- Laws of the definitions of specs/, for this crate's proofs and for those above it.
pub mod Straight
pub mod Recolouring
pub mod Anew
pub mod Fronted
pub mod Channels
