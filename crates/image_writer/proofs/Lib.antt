pub mod PieceLemmas
pub mod KeyLemmas
pub mod FrontLemmas
pub mod OrderLemmas
pub mod WholeLemmas
pub mod LengthLemmas
pub mod CountLemmas
