-- Laws of lines worked out backwards.
pub mod Lines
pub mod Level
