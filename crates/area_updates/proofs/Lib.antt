-- Laws of changes in a table.
pub mod Gains
pub mod Conditions
