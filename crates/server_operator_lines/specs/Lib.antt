pub mod Ages
pub mod Changes
pub mod Lines
