-- Laws of the blur on four planes.
pub mod Native
pub mod Worked
pub mod Same
pub mod Determined
