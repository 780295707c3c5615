-- The definitions that contracts cite of a list of recipes.
pub mod Chain
