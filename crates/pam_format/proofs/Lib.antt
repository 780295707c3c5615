-- Laws of the definitions of specs/, for this crate's proofs and for those above it.
pub mod Decimals
pub mod Counts
pub mod Lines
pub mod Numbers
pub mod Starts
pub mod Files
pub mod Worked
