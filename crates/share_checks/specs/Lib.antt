-- The definitions that contracts cite of the checks of shares, and of what their steps need.
pub mod Checks
pub mod Needs
