pub mod Cache
pub mod Collected
pub mod Held
pub mod Laws
pub mod Over
pub mod Runs
pub mod Slots
pub mod Taken
