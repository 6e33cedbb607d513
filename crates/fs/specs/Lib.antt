pub mod Calls
pub mod Emptying
pub use Rattle.fs_layout.specs.Table
pub use Rattle.fs_layout.specs.Touches
pub use Rattle.fs_inodes.specs.Changes
pub use Rattle.fs_inodes.specs.Growing
