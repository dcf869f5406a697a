-- The causes of a fault of a source or a sink.
use Rattle.std.specs.Prelude.{◌≡◌, true}
use Rattle.fault_counts.specs.Faults.{Rose}
use Rattle.byte_io.specs.Source.{SourceSeen}
use Rattle.byte_io.specs.Sink.{SinkSeen}

-- the last read failed, and the count of faults rose
pub record SourceCause (old new : SourceSeen) : Type 0 where
  pub last_failed : new.failed ≡ true
  pub rose : Rose old.faults new.faults

-- the last write failed, and the count of faults rose; or it took nothing of a piece that isn't empty
pub data SinkCause (old new : SinkSeen) : Type 0 where
  failing : new.failed ≡ true → Rose old.faults new.faults → SinkCause old new
  stalling : new.stalled ≡ true → SinkCause old new
