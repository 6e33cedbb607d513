pub mod Descriptions
pub mod Patterns
pub mod Ranges
pub mod Requests
