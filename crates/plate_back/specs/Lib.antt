-- What is read back of a plate that was added to.
pub mod ReadsBack
