-- Where the lists of a vector lie, and what a call answers.
pub mod Parts
pub mod Replies
