-- Laws of four planes that are moved, and of what the entry leaves.
pub mod Lent
pub mod Shifted
pub mod Same
pub mod Determined
pub mod Examples
