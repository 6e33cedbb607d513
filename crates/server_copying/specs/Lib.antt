pub mod Jobs
