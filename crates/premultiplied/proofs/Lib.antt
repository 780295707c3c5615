-- Premultiplied stays premultiplied.
pub mod Checked
pub mod Painted
pub mod Blurs
pub mod Shifts
pub mod Shadows
pub mod Wholes
pub mod Entries
pub mod Examples
