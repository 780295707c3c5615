-- Laws of the definitions of specs/, for this crate's proofs and for those above it.
pub mod Moved
pub mod Integers
pub mod Zeroed
pub mod Run
pub mod Slid
pub mod Columns
pub mod Exposed
pub mod Plane
pub mod Rows
pub mod Rounded
pub mod Pixels
pub mod Entry
pub mod Determined
pub mod Conditions
