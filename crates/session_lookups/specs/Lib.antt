pub mod Held
pub mod News
