pub mod KindLemmas
pub mod SplittingLemmas
pub mod FrontLemmas
pub mod FirstFrameLemmas
pub mod FedLemmas
pub mod BufferLemmas
