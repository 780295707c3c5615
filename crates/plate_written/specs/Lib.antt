-- The definitions that contracts cite of a plate's bytes as they are written.
pub mod Written
