-- Laws of lines that are turned, for the proofs of the crates above.
mod Turned
pub mod Lines
