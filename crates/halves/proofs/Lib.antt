-- Laws of blocks of pixels in halves of words.
pub mod Taken
pub mod Joined
