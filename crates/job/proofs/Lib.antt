-- Laws of the definitions of specs/, for this crate's proofs and for those above it.
pub mod Lengths
pub mod Settle
pub mod Determined
pub mod Labels
pub mod Cleared
pub mod After
pub mod Turns
pub mod Bodies
pub mod Earlier
