pub mod Distinct
pub mod Octets
pub mod Parts
