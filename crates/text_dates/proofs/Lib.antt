pub mod CivilDates
pub mod SinceLaws
