-- Laws of the definitions of specs/, for this crate's proofs and for those above it.
pub mod Tests
pub mod Table
pub mod Rules
pub mod Worked
pub mod Earlier
