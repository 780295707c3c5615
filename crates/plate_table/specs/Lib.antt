-- The definitions that contracts cite of a table written anew.
pub mod Table
pub mod Steps
