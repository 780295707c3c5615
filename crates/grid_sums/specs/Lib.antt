-- The definitions that contracts cite of kernels of whole numbers and of the sums that they make.
pub mod Sums
pub mod Room
