pub mod Shown
pub mod Naming
pub mod Filing
pub mod Finding
