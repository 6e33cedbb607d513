pub mod Chunks
pub mod Numbers
pub mod Parts
pub mod Pieces
pub mod Volume
