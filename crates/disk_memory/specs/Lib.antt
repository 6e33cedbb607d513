pub mod Calls
pub mod MemDisk
pub mod Memory
pub mod Picks
pub mod Plans
