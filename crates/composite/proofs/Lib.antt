-- Laws of the shadow's arithmetic and of its pixels.
pub mod Between
pub mod Units
pub mod Whole
pub mod Laid
