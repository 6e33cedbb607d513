pub mod Kept
pub mod Growing
pub mod Articles
pub mod Calls
pub mod Putting
