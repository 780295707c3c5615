-- The definitions that contracts cite of a pass along a line, of lines, of both axes, of a level in its form, and of the whole blur.
pub mod Passes
pub mod Kernel
pub mod Blur
pub mod Forms
pub mod Written
pub mod Lines
