-- The definitions that contracts cite of the check and the view.
pub mod Premultiplied
pub mod Sampling
