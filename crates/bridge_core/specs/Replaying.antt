-- What a replay does: the run over a stream whose frames a bridge answers.
use Rattle.std.specs.Prelude.{ℕ, Bool}
use Rattle.disk_model.specs.DiskSeen.{DiskSeen}
use Rattle.chain_commands.specs.Event.{last_kind}
use Rattle.bridge_core.specs.Determined.{Outside}
use Rattle.bridge_core.specs.Reached.{Reached, Broken}
use Rattle.bridge_core.specs.Streaming.{Streams}
use Rattle.bridge_core.specs.declared.status.Status.{Status}

abbrev pub Replays : {D : Type 0} (tells : Bool) (seen : D → DiskSeen) (disk : D) (old new : Outside) (limit : ℕ) → Status → Type 0
Replays tells seen disk old new limit status = Streams last_kind (Reached tells seen) (Broken tells seen) tells seen disk old new limit status
