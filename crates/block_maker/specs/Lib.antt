pub mod Script
pub mod Generated
pub mod Carried
pub mod Seen
pub mod Pieces
