-- Laws of a channel divided by its alpha.
pub mod Outward
pub mod Scales
pub mod Near
