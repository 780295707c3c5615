-- The definitions that contracts cite of a coloured shadow, and of a picture over another.
pub mod Channels
pub mod Shadow
pub mod Plane
