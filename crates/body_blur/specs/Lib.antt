-- The definitions that contracts cite of one body's blur.
pub mod Blur
pub mod Steps
