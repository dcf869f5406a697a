pub mod Absorbing
pub mod Digests
pub mod Lengths
pub mod Lines
pub mod Padding
