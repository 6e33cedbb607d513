pub mod Queue
pub mod Slots
pub mod Numbers
pub mod Lines
pub mod Outgoing
pub mod Fields
