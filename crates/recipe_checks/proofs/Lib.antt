-- Laws of a recipe's kernel and of its own checks.
pub mod Known
