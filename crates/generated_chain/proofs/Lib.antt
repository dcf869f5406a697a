pub mod Lengths
pub mod Hashes
pub mod Behind
pub mod Queries
