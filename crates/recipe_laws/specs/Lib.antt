-- What is said of a list of recipes: what its function for C promises, that it is its single calls in order, whose number a refused one has, and that premultiplied pictures stay premultiplied.
pub mod Promised
pub mod Calls
pub mod InOrder
pub mod Refused
pub mod Stays
