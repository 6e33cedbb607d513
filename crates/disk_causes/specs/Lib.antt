pub mod Causes
pub mod Codes
