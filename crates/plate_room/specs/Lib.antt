-- The definitions that contracts cite of a picture that is to be added to a plate.
pub mod Room
