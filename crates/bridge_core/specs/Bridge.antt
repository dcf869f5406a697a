-- What the turn of a bridge does, of every run state that the bridge stands for.
use Rattle.std.specs.Prelude.{◌≡◌, ◌≢◌, ◌⊎◌, ℕ, List, [], Option, Bool, IsTrue, IsFalse}
use Rattle.fault_counts.specs.Faults.{NeverFell}
use Rattle.feed_frames.specs.Replies.{Reply}
use Rattle.dns_message.specs.Reading.{reading_of}
use Rattle.kept_answers.specs.Answering as kept
use Rattle.kept_answers.specs.Answering.{outdated}
use Rattle.disk_model.specs.Moments.{Files, EachMoment}
use Rattle.disk_model.specs.Changes.{LeavesOthers, Unchanged}
use Rattle.disk_model.specs.DiskSeen.{DiskSeen, HasFailed, NoneFailed, bytes_in}
use Rattle.index_commands.specs.Costs.{IsCheap}
use Rattle.chain_commands.specs.Event.{Carrier, Command, Event, Connect, Disconnect, Do, Ask, Save}
use Rattle.chain_commands.specs.RunState.{RunState, chain_of, IsFull}
use Rattle.chain_commands.specs.Refusals.{HasNoneBelow}
use Rattle.chain_commands.specs.Connecting.{IsValid}
use Rattle.chain_commands.specs.Disconnecting.{IsValidBack}
use Rattle.chain_commands.specs.Saving.{HoldsSave, saves}
use Rattle.bridge_core.specs.Querying.{served_on, zone_on, transport_of, query_reply}
use Rattle.bridge_core.specs.Step.{Step}
use Rattle.bridge_core.specs.Leaving.{IsDoneBy}
use Rattle.name_store.specs.Stands.{Stands, EachStands, EachStandsForEither}
use Rattle.name_store.specs.Stored as stores
use Rattle.name_store.specs.Stored.{Stored, IsOn, area_file}
use Rattle.name_store.specs.Saves.{SparesSelected}
use Rattle.bridge_core.specs.Bridged.{Bridged, StandsFor}
use Rattle.bridge_core.specs.declared.bridge.Turned.{Turned}
use Rattle.bridge_core.specs.declared.bridge.Turned.TheVariants.{On, Ended}

-- ---- what the turn answers

-- the disk failed while the command or the save was kept
abbrev pub fault_code : ℕ
fault_code = 0xFD

abbrev pub fault_reply : Reply
fault_reply = record { code = fault_code; payload = [] }

-- the event is a command or a save, and has no refusal
abbrev pub IsValidEvent : RunState → Event → Type 0
IsValidEvent run (Do (Connect block)) = IsValid (IsFull run (Connect block)) (chain_of run) block
IsValidEvent run (Do (Disconnect hash)) = IsValidBack (IsFull run (Disconnect hash)) (chain_of run) hash
IsValidEvent run (Ask carrier message) = ⊥
IsValidEvent run Save = HasNoneBelow (HoldsSave run) saves.order saves.places

-- one step of the machine gives the reply, and the bridge stands for the run state behind it
pub record Moves (old : RunState) (event : Event) (reply : Reply) (bridge : Bridged) : Type 0 where
  pub new : RunState
  pub step : Step old event reply new
  pub stands : StandsFor bridge new

-- A bridge that goes on made one step of the machine. It ends only behind all refusals.
abbrev pub MakesStepFor : RunState → Event → Reply → Turned → Type 0
MakesStepFor run event reply (On bridge) = Moves run event reply bridge
MakesStepFor run event reply Ended = IsValidEvent run event

abbrev pub MakesStep : Bridged → Event → Reply → Turned → Type 0
MakesStep old event reply turned = (run : RunState) → StandsFor old run → MakesStepFor run event reply turned

-- code FD is the reply exactly where the bridge has ended, and it has no payload
abbrev pub TellsFault : Reply → Turned → Type 0
TellsFault reply (On bridge) = reply.code ≢ fault_code
TellsFault reply Ended = reply ≡ fault_reply

-- ---- what it asks of the disk

-- neither done nor broken off by a fault: it was refused, or wanted memory
abbrev pub IsUndone : Reply → Type 0
IsUndone reply = (reply.code ≢ 0) × (reply.code ≢ fault_code)

-- Of a message nothing is asked of the disk, whatever it is answered; nor of a command or a save that is refused, or wants memory.
abbrev pub AsksNothing : Event → Reply → Type 0
AsksNothing (Ask carrier message) reply = Unit {0}
AsksNothing (Do command) reply = IsUndone reply
AsksNothing Save reply = IsUndone reply

-- the disk failed, in the last call that was made of it, where the bridge has ended; and where it goes on with a command that
-- was accepted, or a save that was made, the last call worked
abbrev pub EndsOn : (before after : DiskSeen) → Event → Reply → Turned → Type 0
EndsOn before after event reply Ended = HasFailed before after
EndsOn before after (Ask carrier message) reply (On bridge) = Unit {0}
EndsOn before after (Do command) reply (On bridge) = reply.code ≡ 0 → IsFalse after.failed
EndsOn before after Save reply (On bridge) = reply.code ≡ 0 → IsFalse after.failed

-- where the bridge goes on, no call of the disk failed in its turn
abbrev pub NoneFailedOn : (before after : DiskSeen) → Turned → Type 0
NoneFailedOn before after (On bridge) = NoneFailed before after
NoneFailedOn before after Ended = Unit {0}

-- the bridge is on the disk, where it goes on
abbrev pub IsStillOn : Turned → Files → Type 0
IsStillOn (On bridge) files = IsOn bridge.store files
IsStillOn Ended files = Unit {0}

-- a command changes no file but the selected area, a save leaves that one as it was, and a message leaves each
abbrev pub SparesFiles : Stored → Event → (before after : Files) → Type 0
SparesFiles old (Do command) = LeavesOthers (area_file old)
SparesFiles old (Ask carrier message) = Unchanged
SparesFiles old Save = SparesSelected old

-- No count of faults fell, no call failed where the bridge goes on, and how the turn ended on the disk. Of one that tells its files:
-- what the event spares of them was the same at each moment, and the bridge is on it.
pub record LeavesDisk (tells : Bool) (old : Stored) (before after : DiskSeen) (event : Event) (reply : Reply) (turned : Turned) : Type 0 where
  pub later : NeverFell before.faults after.faults
  pub none : NoneFailedOn before after turned
  pub ends : EndsOn before after event reply turned
  pub others : IsTrue tells → EachMoment (SparesFiles old event before.moments.now) before.moments after.moments
  pub still_on : IsTrue tells → IsStillOn turned after.moments.now

-- as read, and whatever a crash leaves, the files stand for the run state
pub record AreFilesOf (run : RunState) (files : Files) : Type 0 where
  pub read : Stands (λ file. (files file).bytes) run
  pub each : EachStands files run

-- The run state that may stand on the disk besides: one that the event makes, where it was done or the disk failed, and else the
-- one before.
pub record IsNext (run : RunState) (event : Event) (reply : Reply) (next : RunState) : Type 0 where
  pub made : (reply.code ≡ 0) ⊎ (reply.code ≡ fault_code) → IsDoneBy run event next
  pub same : IsUndone reply → next ≡ run

-- Whatever a crash leaves at any moment stands for the run state before the event, or for the next one. At the end it stands
-- for the next one where the reply has code 0, and for the one before where it has another code but FD.
pub record OutlivesCrashes (run : RunState) (event : Event) (before after : DiskSeen) (reply : Reply) : Type 0 where
  pub next : RunState
  pub is_next : IsNext run event reply next
  pub any_moment : EachMoment (EachStandsForEither run next) before.moments after.moments
  pub done : reply.code ≡ 0 → AreFilesOf next after.moments.now
  pub undone : IsUndone reply → AreFilesOf run after.moments.now

-- of each run state that the store stood for, and the files
abbrev pub Keeps : Bool → Stored → Event → (before after : DiskSeen) → Reply → Type 0
Keeps tells old event before after reply =
    IsTrue tells → (run : RunState) → stores.StandsFor old run → Stands (bytes_in before) run → OutlivesCrashes run event before after reply

-- ---- what it does to the answers that are kept

-- a message, by its answer from the chain of the run state, in the zone of the store's host
pub record KeepsAnswer (run : RunState) (carrier : Carrier) (message : List ℕ) (reply : Reply) (old new : Bridged) : Type 0 where
  pub answer : Option (List ℕ)
  pub told : reply ≡ query_reply answer
  pub keeps : kept.Keeps (served_on (chain_of run)) (zone_on old.store.host (chain_of run)) (transport_of carrier) (reading_of message) answer old.answers new.answers

-- A command that is accepted outdates them. One that isn't, and a save, leave them. A message does by its answer, of each run state that
-- the store stood for.
abbrev pub KeepsAnswers : Bridged → Event → Reply → Turned → Type 0
KeepsAnswers old event reply Ended = Unit {0}
KeepsAnswers old (Do command) reply (On bridge) = (reply.code ≡ 0 → bridge.answers ≡ outdated old.answers) × (reply.code ≢ 0 → bridge.answers ≡ old.answers)
KeepsAnswers old (Ask carrier message) reply (On bridge) = (run : RunState) → stores.StandsFor old.store run → KeepsAnswer run carrier message reply old bridge
KeepsAnswers old Save reply (On bridge) = bridge.answers ≡ old.answers

-- ---- all of it

-- one event was answered, by the bridge over the disk as it was
pub record AnswersEvent {D : Type 0} (tells : Bool) (seen : D → DiskSeen) (old : Bridged) (before : D) (event : Event) (reply : Reply) (turned : Turned) (after : D) : Type 0 where
  pub step : MakesStep old event reply turned
  pub told : TellsFault reply turned
  pub untouched : AsksNothing event reply → after ≡ before
  pub leaves : LeavesDisk tells old.store (seen before) (seen after) event reply turned
  pub kept : Keeps tells old.store event (seen before) (seen after) reply
  pub answers : KeepsAnswers old event reply turned

-- a query was answered: no fault is told, and the store is the same
pub record AnswersQuery (old : Bridged) (carrier : Carrier) (message : List ℕ) (reply : Reply) (new : Bridged) : Type 0 where
  pub step : MakesStep old (Ask carrier message) reply (On new)
  pub no_fault : reply.code ≢ fault_code
  pub same_store : new.store ≡ old.store
  pub answers : KeepsAnswers old (Ask carrier message) reply (On new)

-- ---- costs

-- of a bridge that goes on
abbrev pub IsCheapOn : Stored → Command → Turned → ℕ → ℕ → Type 0
IsCheapOn old command (On bridge) before after = IsCheap old.index command bridge.store.index before after
IsCheapOn old command Ended before after = Unit {0}

-- where the command is accepted
abbrev pub IsCheapTurn : Stored → Command → Reply → Turned → ℕ → ℕ → Type 0
IsCheapTurn old command reply turned before after = reply.code ≡ 0 → IsCheapOn old command turned before after
