-- Laws of starting a plate.
pub mod Settle
