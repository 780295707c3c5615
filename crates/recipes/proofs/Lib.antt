-- Laws of the recipes of a list, one after the other; of what is found; of one call; of what a chain comes to; and of what the contract promises and determines.
pub mod Folds
pub mod Found
pub mod OneCall
pub mod Done
pub mod Promised
pub mod Determined
