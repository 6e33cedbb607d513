pub mod Held
pub mod Here
pub mod Full
pub mod Large
pub mod Sound
pub mod Texts
pub mod Staying
