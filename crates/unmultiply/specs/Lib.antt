-- The definitions that the contracts cite of a channel divided by its alpha.
pub mod Outward
