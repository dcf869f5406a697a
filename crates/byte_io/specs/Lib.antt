pub use Rattle.fault_counts.specs.Faults
pub use Rattle.fault_counts.specs.Counts
pub mod Source
pub mod Sink
pub mod Port
