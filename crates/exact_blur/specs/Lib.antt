-- The exact blur, and how near the blur has to be to it.
pub mod Exact
pub mod Demand
