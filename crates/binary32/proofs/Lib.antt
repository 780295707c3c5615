-- Laws of the definitions of specs/, for this crate's proofs and for those above it.
pub mod Halves
pub mod Values
pub mod Ranges
pub mod Scaled
pub mod Written
pub mod Sums
pub mod Channels
pub mod Offsets
pub mod Grid
pub mod Rounded
pub mod Taps
pub mod Kernels
pub mod Conditions
