pub mod Copies
pub mod Flags
