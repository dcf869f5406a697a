pub mod PieceLemmas
pub mod SaveLemmas
pub mod OnlyLemmas
pub mod FrontLemmas
pub mod FeedLemmas
pub mod LoadedLemmas
pub mod StateLaws
pub mod AreaLaws
