pub mod Leaving
pub mod Looking
pub mod Writing
