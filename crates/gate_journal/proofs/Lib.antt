pub mod WriteLemmas
pub mod AppendLemmas
pub mod ReadLemmas
pub mod RecordLemmas
pub mod GateLemmas
