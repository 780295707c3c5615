-- Laws of one body's blur.
pub mod Fixed
pub mod Body
