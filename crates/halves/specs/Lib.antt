-- The bytes of a block of pixels, apart and together.
pub mod Blocks
