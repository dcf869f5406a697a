pub mod Nodes
pub mod Piles
pub mod Rows
