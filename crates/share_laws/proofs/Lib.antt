-- Linearity of the exact blur, and what it says of shares.
pub mod Examples
pub mod Sums
pub mod Linear
pub mod Exact
pub mod Explained
pub mod Separate
pub mod Flat
pub mod Sizes
pub mod Lent
