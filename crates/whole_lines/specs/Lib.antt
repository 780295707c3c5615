-- The definitions that contracts cite of the whole-number convolution of lines.
pub mod Lines
