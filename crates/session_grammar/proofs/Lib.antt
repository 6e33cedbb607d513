pub mod ArgumentLaws
pub mod WordLaws
pub mod ReadLaws
