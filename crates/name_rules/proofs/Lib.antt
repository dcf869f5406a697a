pub mod FirstOf
pub mod Shortened
