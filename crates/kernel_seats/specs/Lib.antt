pub mod Seats
pub mod Lined
pub mod Kept
pub mod Serving
