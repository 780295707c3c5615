-- The definitions that contracts cite of the spread report.
pub mod Spread
