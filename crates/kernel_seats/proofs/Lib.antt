pub mod Halving
pub mod Keeping
pub mod Releasing
pub mod SeatLaws
pub mod Seeing
pub mod SeatsLaws
pub mod Rest
pub mod One
