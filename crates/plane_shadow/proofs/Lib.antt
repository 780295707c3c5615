-- Laws of the shadow on four planes.
pub mod Laying
pub mod Cast
pub mod Same
pub mod Determined
