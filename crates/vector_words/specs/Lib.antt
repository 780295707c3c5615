-- What a buffer of words holds.
pub mod Words
