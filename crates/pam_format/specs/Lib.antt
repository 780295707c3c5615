-- The definitions that contracts cite of the testers' image files: their header, and when some bytes are such a file.
pub mod Header
pub mod Format
