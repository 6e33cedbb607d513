pub mod Gone
pub mod State
pub mod Told
pub mod Json
pub mod Table
