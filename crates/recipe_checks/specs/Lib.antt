-- The definitions that contracts cite of one recipe: its own checks, and the single call that it names.
pub mod Own
pub mod Single
