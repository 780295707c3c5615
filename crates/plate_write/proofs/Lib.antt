-- Laws of writing plates.
pub mod Settle
pub mod Head
pub mod Appended
