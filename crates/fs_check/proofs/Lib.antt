pub mod Bitmaps
pub mod Deciding
pub mod MarkedLists
pub mod Owning
pub mod Pointers
pub mod Slots
pub mod Sound
pub mod Wholes
