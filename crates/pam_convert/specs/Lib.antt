-- The definitions that contracts cite of channels inward and outward.
pub mod Straight
pub mod Needs
