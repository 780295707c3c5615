-- Laws of the passes, for the proofs of the crates above.
pub mod Written
pub mod Planes
pub mod Local
pub mod Taps
pub mod OneWide
pub mod Relates
pub mod Forms
pub mod Lines
pub mod Lent
