pub mod Picked
mod Entries
