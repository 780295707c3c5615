-- The definitions that contracts cite of the testers' image files read and written.
pub mod Needs
pub mod Import
pub mod Export
