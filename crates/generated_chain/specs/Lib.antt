pub mod Draws
pub mod Texts
pub mod Stands
pub mod Reading
pub mod Blocks
pub mod Events
pub mod Place
pub mod Holding
