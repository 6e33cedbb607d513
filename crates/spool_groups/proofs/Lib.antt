pub mod Places
pub mod Naming
pub mod Steps
pub mod Lists
pub mod Searching
pub mod Marked
