pub mod Between
pub mod ByResult
pub mod Found
pub mod Lookups
pub mod Order
pub mod Parts
pub mod Places
