pub mod Versions
pub mod Text
pub mod Reading
pub mod Fields
pub mod Faults
pub mod Answers
pub mod Measured
