-- What contracts see of the sink in memory.
use Rattle.std.specs.Prelude.{ℕ, List, Some, false}
use Rattle.fault_counts.specs.Counts.{Counts, faults_of}
use Rattle.byte_io.specs.Sink.{SinkSeen}

-- the bytes taken, and what the writes came to
pub record SinkView : Type 0 where
  pub taken : List ℕ
  pub counts : Counts

abbrev pub memory_seen : SinkView → SinkSeen
memory_seen s = record { taken = Some s.taken; faults = faults_of s.counts; failed = s.counts.failed; stalled = false; stalls = 0 }
