pub mod Told
pub mod Places
pub mod Taking
pub mod Filling
pub mod Seen
pub mod Images
pub mod Kept
