-- Laws of plates that were written, over the contracts of starting and adding.
pub mod Back
pub mod Empty
pub mod ReadsBack
pub mod Ignored
pub mod Determined
