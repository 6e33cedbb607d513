pub mod Batches
pub mod Gates
pub mod Laid
pub mod Loading
pub mod Pieces
pub mod Writes
pub mod Written
