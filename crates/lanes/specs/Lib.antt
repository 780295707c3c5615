-- The definitions that contracts cite of lanes.
pub mod Lanes
