-- Laws of pixels and their channels, and of a loop that writes pixel after pixel.
pub mod Channels
pub mod Places
pub mod Painting
