pub mod Kept
pub mod View
pub mod Refusals
pub mod Laws
pub mod Packing
