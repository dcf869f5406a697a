pub mod NoteLemmas
pub mod StreamLemmas
pub mod PollLemmas
pub mod RunLemmas
pub mod LawLemmas
pub mod StretchLemmas
