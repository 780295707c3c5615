-- Laws of counting, of a pixel in one word, and of bytes joined.
pub mod Counted
pub mod Packed
pub mod Joined
