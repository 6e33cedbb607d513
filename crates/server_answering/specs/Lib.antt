pub mod Http
pub mod NextMessage
