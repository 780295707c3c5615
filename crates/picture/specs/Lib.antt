-- The definitions that contracts cite of a picture: its sizes, its bytes, its edge rules, its refusals, and what a call leaves.
pub mod Build
pub mod Spans
pub mod Planes
pub mod Buffers
pub mod Sizes
pub mod Modes
pub mod Refusal
pub mod Answer
pub mod Slice
