pub mod Found
pub mod Staged
