pub mod FilesLemmas
pub mod NetLemmas
pub mod PortLemmas
pub mod StreamsLemmas
pub mod WaitsLemmas
