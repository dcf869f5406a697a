pub use Rattle.fault_counts.specs.Faults
pub use Rattle.fault_counts.specs.Counts
pub mod MemorySource
pub mod MemorySink
pub mod RoomSink
pub mod Kept
pub mod MemoryPort
