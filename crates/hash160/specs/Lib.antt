pub mod Ripemd160
pub mod Hash160
pub mod Hasher
