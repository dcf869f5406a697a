pub mod Kinds
pub mod Frames
pub mod Replies
pub mod Front
pub mod Feed
pub mod Places
pub mod Lend
pub mod Law
