pub mod Loops
pub mod Fronts
