pub mod Adding
pub mod Filing
pub mod Room
pub mod Saved
pub mod Opening
