-- Laws of the checks of shares, and numerators that worked calls have.
pub mod Accepted
pub mod Numerators
