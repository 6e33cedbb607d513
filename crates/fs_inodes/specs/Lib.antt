pub mod Changes
pub mod Growing
pub mod Shrinking
pub use Rattle.fs_layout.specs.Table
pub use Rattle.fs_layout.specs.Touches
