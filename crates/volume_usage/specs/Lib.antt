pub mod Marks
pub mod Usage
