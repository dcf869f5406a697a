pub mod Kept
pub mod Parts
pub mod Answering
pub mod Whole
