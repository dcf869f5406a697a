pub mod Filling
pub mod PileLemmas
pub mod Placed
