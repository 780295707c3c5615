-- Laws of area sums.
pub mod FourCorners
pub mod Changes
pub mod Tables
pub mod Examples
pub mod Taken
pub mod Determined
pub mod Promised
