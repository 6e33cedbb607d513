mod Added
mod Aged
mod Making
mod Staying
