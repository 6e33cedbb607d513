pub mod Renewing
pub mod Stopping
