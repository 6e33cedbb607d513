pub mod Groups
pub mod Openings
pub mod Shares
pub mod Totals
pub mod Floats
