pub mod GivingLaws
pub mod LoopLaws
pub mod BufferLaws
pub mod Numbered
pub mod LinesLaws
pub mod Handing
