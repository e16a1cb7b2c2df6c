pub mod Listing
pub mod Unique
