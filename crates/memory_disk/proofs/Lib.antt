pub mod CallLemmas
pub mod KeptLemmas
pub mod TouchedLemmas
pub mod StoredLemmas
pub mod ReplayLemmas
