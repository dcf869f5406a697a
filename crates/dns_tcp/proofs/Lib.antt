pub mod MessageLemmas
pub mod FrontLemmas
pub mod BufferLemmas
pub mod StreamLemmas
pub mod HeldLemmas
