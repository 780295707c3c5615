-- Laws of opaque pixels in front.
pub mod Fronts
