-- The definitions that contracts cite of the listing of shares.
pub mod Listing
