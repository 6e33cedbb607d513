pub mod Standing
pub mod Absent
pub mod Groups
