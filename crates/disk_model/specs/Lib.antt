pub mod FileState
pub mod Moments
pub mod Changes
pub mod Reads
pub mod DiskSeen
