pub mod Passing
pub mod Fronts
pub mod ReadBack
pub mod Lines
