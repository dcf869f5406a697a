-- What a listing run does: the run over a stream whose frames a lister answers.
use Rattle.std.specs.Prelude.{ℕ, Bool}
use Rattle.disk_model.specs.DiskSeen.{DiskSeen}
use Rattle.bridge_core.specs.Determined.{Outside}
use Rattle.bridge_core.specs.Streaming.{Streams}
use Rattle.bridge_core.specs.declared.status.Status.{Status}
use Rattle.name_lister.specs.Event.{last_list_kind}
use Rattle.name_lister.specs.Reached.{Reached, Broken, with_pages}

-- with pages of so many rows
abbrev pub Lists : {D : Type 0} (size : ℕ) (tells : Bool) (seen : D → DiskSeen) (disk : D) (old new : Outside) (limit : ℕ) → Status → Type 0
Lists size tells seen disk old new limit status =
    Streams last_list_kind (λ begun. Reached tells seen (with_pages size begun)) (λ begun. Broken tells seen (with_pages size begun)) tells seen disk old new limit status
