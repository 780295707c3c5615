-- Laws of the definitions of specs/, for this crate's proofs and for those above it.
pub mod Imports
pub mod Exports
pub mod Taken
pub mod Determined
pub mod Survives
