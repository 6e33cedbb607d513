pub mod Fitting
pub mod Tying
pub mod Sound
pub mod Since
pub mod Running
pub mod Opening
pub mod Failing
mod Extending
mod Living
pub mod Inner
pub mod Settling
pub mod Settled
pub mod Releases
pub mod Refusing
pub mod Reading
pub mod Copying
