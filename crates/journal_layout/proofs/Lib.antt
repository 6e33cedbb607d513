pub mod Formatted
pub mod Numbers
