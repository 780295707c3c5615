-- Laws of the functions for C: whatever a contract allows of one call is one, and runs in other memory leave the same.
pub mod Determined
pub mod Runs
pub mod ImageRuns
pub mod MendRuns
pub mod WholeRuns
pub mod AreaRuns
pub mod ShareRuns
pub mod PlaneRuns
