-- What a command leaves of the selected area: its length, and its bytes up to the gate that was its last.
use Rattle.std.specs.Prelude.{◌≡◌, ◌+◌, ◌-◌, ◌++◌, take}
use Rattle.disk_model.specs.DiskSeen.{DiskSeen, bytes_in}
use Rattle.gate_journal.specs.Gate.{record_text}
use Rattle.gate_journal.specs.Records.{Fits}
use Rattle.chain_commands.specs.Event.{Command}
use Rattle.chain_commands.specs.RunState.{record_length}
use Rattle.index_commands.specs.Records.{record_of}
use Rattle.name_store.specs.declared.store.Outcome.{Outcome}
use Rattle.name_store.specs.declared.store.Outcome.TheVariants.{Done, Refused, NoMemory, Faulted}
use Rattle.name_store.specs.Outcomes.{IfDone}
use Rattle.name_store.specs.Stored.{Stored, area_file}

-- the same area is selected, and as long
pub record IsAsLong (old new : Stored) : Type 0 where
  pub slots : new.slots ≡ old.slots
  pub area : new.area ≡ old.area

-- the same area is selected, and longer by the command's record
pub record IsLonger (command : Command) (old new : Stored) : Type 0 where
  pub slots : new.slots ≡ old.slots
  pub area : new.area ≡ old.area + record_length command
  pub fits : Fits (record_of command)

-- longer where the command was done, and else as long
abbrev pub Grows : {T R : Type 0} → Command → Stored → Outcome T R → Type 0
Grows command old (Done store told) = IsLonger command old store
Grows command old (Refused store refusal) = IsAsLong old store
Grows command old (NoMemory store) = IsAsLong old store
Grows command old Faulted = Unit {0}

-- where it was done, the record stands behind what the area had before
abbrev pub AddsRecord : {T R : Type 0} → Command → Stored → (before after : DiskSeen) → Outcome T R → Type 0
AddsRecord command old before after outcome =
    IfDone (λ store. take (store.area - 1) (bytes_in after (area_file old)) ≡ take (old.area - 1) (bytes_in before (area_file old)) ++ record_text (record_of command)) outcome
