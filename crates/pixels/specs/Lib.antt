-- The definitions that contracts cite of one pixel of a picture.
pub mod Pixels
pub mod Channels
