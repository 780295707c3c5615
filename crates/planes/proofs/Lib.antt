-- Laws of planes as bytes: there and back, the same operation in both forms, and what the entries leave.
pub mod Planar
pub mod Carried
pub mod Forms
pub mod Blocks
pub mod Once
pub mod Same
pub mod Entry
pub mod Determined
pub mod Examples
