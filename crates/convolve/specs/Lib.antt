-- The definitions that contracts cite of a convolution of lines.
pub mod Lines
