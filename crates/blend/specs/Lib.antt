-- The definitions that contracts cite of bytes blended in weights 1, 3, 3, 1 over 8, and of outputs made.
pub mod Blend
pub mod Tapped
pub mod Pixels
pub mod Parts
