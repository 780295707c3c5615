-- What the buffers of a call hold, and numbers below a bound.
pub mod Buffers
pub mod Bounds
