pub mod NameScript
pub mod Reading
pub mod Seen
