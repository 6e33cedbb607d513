pub mod Counted
pub mod Images
pub mod Marked
pub mod Reading
