mod ListLemmas
mod NameLemmas
mod TakingLemmas
mod BeginningLemmas
mod PlaceLemmas
mod PuttingLemmas
pub mod SoundLemmas
pub mod ToldLemmas
pub mod OnlyLemmas
mod FilledLemmas
mod KeptLemmas
mod WritableLemmas
pub mod ImageLemmas
