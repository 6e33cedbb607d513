pub mod Replies
pub mod Answered
pub mod Stuffing
pub mod Pieces
