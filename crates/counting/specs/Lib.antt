-- The definitions that contracts cite of counting pixels, of a pixel in one word, and of bytes joined.
pub mod Counts
pub mod Words
pub mod Over
