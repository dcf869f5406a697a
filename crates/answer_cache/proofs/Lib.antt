pub mod HeldLemmas
pub mod PromotedLemmas
