pub mod Batch
pub mod LineEnds
pub mod Laws
pub mod Held
pub mod Refusals
