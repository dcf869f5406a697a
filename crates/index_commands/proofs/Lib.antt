pub mod ChainTips
pub mod ByIndexLemmas
mod StageLemmas
mod BackLemmas
pub mod StagedLemmas
pub mod SizeLemmas
pub mod TakenLemmas
pub mod ResultLemmas
pub mod ChainLemmas
pub mod LeadLemmas
pub mod FollowLemmas
pub mod AreaLemmas
pub mod ReadingLemmas
pub mod KeepLemmas
pub mod RecordLaws
pub mod FollowedLemmas
