pub mod Texts
pub mod Parts
pub mod Overviews
pub mod Stored
