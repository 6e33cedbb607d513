mod AgeLines
mod Drops
pub mod Ended
