-- What a copy of the opaque pixels in front leaves.
pub mod Front
