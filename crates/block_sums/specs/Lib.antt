-- The definitions that contracts cite of a block's sums.
pub mod Bytes
pub mod Room
