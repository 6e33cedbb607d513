mod Counted
mod Named
mod Runs
mod Treated
