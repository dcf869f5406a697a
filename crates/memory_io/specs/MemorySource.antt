-- What contracts see of the sources in memory.
use Rattle.std.specs.Prelude.{ℕ, List, Some, false}
use Rattle.fault_counts.specs.Counts.{Counts, faults_of}
use Rattle.fault_counts.specs.Faults.{no_faults}
use Rattle.byte_io.specs.Source.{SourceSeen}

-- the bytes left, and what the reads came to
pub record SourceView : Type 0 where
  pub left : List ℕ
  pub counts : Counts

abbrev pub memory_seen : SourceView → SourceSeen
memory_seen s = record { left = Some s.left; faults = faults_of s.counts; failed = s.counts.failed }

abbrev pub steady_seen : List ℕ → SourceSeen
steady_seen left = record { left = Some left; faults = no_faults; failed = false }
