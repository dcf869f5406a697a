pub mod Messages
pub mod Buffer
pub mod Streams
pub mod Held
pub mod Lend
