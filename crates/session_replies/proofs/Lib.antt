mod Dots
pub mod Pieced
pub mod Lined
