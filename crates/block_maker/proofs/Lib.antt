pub mod Texts
pub mod Holding
pub mod Scripts
pub mod Whole
