pub mod ManyLives
pub mod Outliving
