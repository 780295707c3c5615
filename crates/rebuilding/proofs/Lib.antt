-- Laws of rebuilding, and of mending and rebuilding one after the other.
pub mod Rising
pub mod Conditions
pub mod Restores
pub mod Taken
pub mod Determined
pub mod Promised
pub mod Examples
