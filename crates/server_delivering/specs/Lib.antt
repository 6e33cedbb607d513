pub mod Delivery
pub mod Patience
