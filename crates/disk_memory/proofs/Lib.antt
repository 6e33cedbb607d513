mod Picking
mod Syncing
mod Torn
