pub mod Origins
pub mod Causes
pub mod Stored
pub mod Parts
pub mod Read
pub mod Kept
pub mod Injected
