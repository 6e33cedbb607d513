pub mod Renewed
pub mod Laws
