pub mod Traced
pub mod Events
pub mod Marks
pub mod Input
pub mod Fields
pub mod Errors
