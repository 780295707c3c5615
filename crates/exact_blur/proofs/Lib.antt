-- Demand 3: how near the blur is to the exact blur.
pub mod Sums
pub mod Stages
pub mod Passes
pub mod Near
pub mod Graded
pub mod Reach
pub mod Apart
pub mod Sharp
