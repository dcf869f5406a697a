pub mod PageLemmas
pub mod SessionLemmas
pub mod ListingLemmas
