-- Laws of a plate's bytes as they are written.
pub mod Written
