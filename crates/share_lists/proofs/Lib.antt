-- Laws of the listing of shares.
pub mod Examples
pub mod Products
pub mod Determined
