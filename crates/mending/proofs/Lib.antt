-- Laws of mending.
pub mod Lowered
pub mod Listed
pub mod Passing
pub mod Determined
