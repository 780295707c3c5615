-- Concrete calls, worked out by the definitions.
pub mod Worked
