pub mod Compact
pub mod Expiry
pub mod Hash
pub mod Heights
pub mod Roomy
