pub mod Composing
pub mod Creating
pub mod Emptying
pub mod Naming
pub mod Zeros
pub mod Within
