pub mod Committed
pub mod Made
pub mod Ages
pub mod Listing
