pub mod Eight
pub mod Hints
pub mod Joined
pub mod Pairs
pub mod Rising
