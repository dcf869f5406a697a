pub mod Gate
pub mod Records
pub mod Stand
pub mod Writes
pub mod Answers
pub mod Calls
