pub mod Calls
pub mod Flight
pub mod Inside
pub mod Journal
pub mod Opening
pub mod Order
pub mod Upgrading
