pub mod Exported
pub mod Lines
