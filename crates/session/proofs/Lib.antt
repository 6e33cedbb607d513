pub mod Serving
pub mod Stepping
