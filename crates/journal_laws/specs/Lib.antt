pub mod Batches
pub mod Held
pub mod Images
