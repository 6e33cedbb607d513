pub mod Stored
pub mod Going
pub mod Replayed
pub mod Laws
pub mod Ended
