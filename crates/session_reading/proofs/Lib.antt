pub mod Replied
pub mod Picking
pub mod InGroup
