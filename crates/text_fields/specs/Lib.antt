pub mod Header
pub mod Contents
pub mod Whole
