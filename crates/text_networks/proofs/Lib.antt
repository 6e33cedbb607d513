pub mod FirstBits
pub mod Numeral
pub mod Slash
pub mod Family
pub mod Words
pub mod Families
