pub mod Ages
pub mod Gone
pub mod Treating
