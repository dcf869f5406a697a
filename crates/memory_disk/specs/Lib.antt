pub mod Calls
pub mod Touched
pub mod MemoryLog
pub mod Sound
pub mod Kept
pub mod Stored
pub mod Chosen
pub mod Replays
