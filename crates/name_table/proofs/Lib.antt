mod ByBytesLemmas
mod EntryLemmas
mod KeyLemmas
pub mod MeasureLemmas
mod Readings
