pub mod Bits
pub mod Blocks
pub mod Marks
pub mod Table
pub mod Touches
