pub mod Listing
pub mod Newest
