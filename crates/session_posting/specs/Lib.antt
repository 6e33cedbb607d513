pub mod Accepted
pub mod Outcomes
pub mod Refusals
