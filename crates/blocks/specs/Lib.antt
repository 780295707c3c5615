-- The definitions that contracts cite of blocks.
pub mod Blocks
