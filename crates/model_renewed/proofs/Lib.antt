pub mod Alike
pub mod AlikeAnswers
pub mod Husks
pub mod Renewing
