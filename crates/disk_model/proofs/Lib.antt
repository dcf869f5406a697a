pub mod MomentLemmas
pub mod ImageLemmas
