pub mod Elements
pub mod Labels
pub mod Made
pub mod Object
pub mod Shapes
pub mod Sizes
pub mod Values
