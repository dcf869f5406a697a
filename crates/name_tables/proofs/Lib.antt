pub mod ListLemmas
pub mod PlaceLemmas
pub mod TableLemmas
pub mod OrderLemmas
pub mod ExpiryLemmas
pub mod RestoreLemmas
pub mod ClearLemmas
pub mod RoomLemmas
