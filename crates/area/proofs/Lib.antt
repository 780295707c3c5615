-- Laws of sums and of tables.
pub mod Sums
pub mod Entries
pub mod Rows
pub mod Laid
pub mod Conditions
pub mod Settle
