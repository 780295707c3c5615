-- The definitions that contracts cite of binary32 values: ranges, rounding, the grid of 1 / 65536, sums of taps.
pub mod Ranges
pub mod Round
pub mod Grid
pub mod Taps
