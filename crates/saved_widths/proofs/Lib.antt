pub mod VerdictLemmas
pub mod StartLemmas
pub mod BlockLemmas
pub mod ChainLemmas
