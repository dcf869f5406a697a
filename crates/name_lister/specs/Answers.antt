-- What the turn of a lister does, of every state that the lister stands for.
use Rattle.std.specs.Prelude.{◌≡◌, ◌≢◌, ℕ, Bool, IsTrue, IsFalse, Option, Some, None}
use Rattle.std.specs.Option.{is_some}
use Rattle.fault_counts.specs.Faults.{NeverFell}
use Rattle.bridge_core.specs.Bridge.{AnswersEvent, AreFilesOf, IsUndone, AsksNothing, SparesFiles, fault_code, fault_reply}
use Rattle.bridge_core.specs.Bridged.{Bridged}
use Rattle.bridge_core.specs.Runs.{KeepsFiles, KeepsEither}
use Rattle.bridge_core.specs.declared.bridge.Turned.{Turned}
use Rattle.bridge_core.specs.declared.bridge.Turned.TheVariants as bridge
use Rattle.chain_commands.specs.Event.{Event, Do, Ask, Save}
use Rattle.disk_model.specs.Changes.{LeavesOthers, Unchanged}
use Rattle.disk_model.specs.DiskSeen.{DiskSeen, HasFailed, NoneFailed}
use Rattle.disk_model.specs.Moments.{Files, EachMoment}
use Rattle.feed_frames.specs.Replies.{Reply}
use Rattle.image_slots.specs.Selections.{drafted_by}
use Rattle.name_store.specs.Saves.{SparesSelected}
use Rattle.name_store.specs.Stored.{Stored}
use Rattle.name_lister.specs.Event.{ListEvent, Plain, Open, Page, Close, Begin, Slice}
use Rattle.name_lister.specs.Lister.{Listed, StandsFor, IsListOn}
use Rattle.name_lister.specs.Step.{ListState, ListStep, IsValidList, MayLeave}
use Rattle.name_lister.specs.declared.lister.ListTurned.{ListTurned}
use Rattle.name_lister.specs.declared.lister.ListTurned.TheVariants.{On, Ended}
use Rattle.name_lister.specs.declared.saving.Saving.{Saving}

-- ---- the machine's step, and the files

-- one step of the machine gives the reply, the lister stands for the state behind it, and the files follow
pub record Moves (tells : Bool) (size : ℕ) (old : ListState) (before : DiskSeen) (event : ListEvent) (reply : Reply) (lister : Listed) (after : DiskSeen) : Type 0 where
  pub new : ListState
  pub step : ListStep size old event reply new
  pub stands : StandsFor lister new
  pub follow : IsTrue tells → AreFilesOf old.run before.moments.now → KeepsFiles old.run new.run before after

-- the disk failed in the turn of an event without a refusal
pub record CutsShort (tells : Bool) (old : ListState) (before : DiskSeen) (event : ListEvent) (after : DiskSeen) : Type 0 where
  pub valid : IsValidList old event
  pub keeps : IsTrue tells → AreFilesOf old.run before.moments.now → KeepsEither (MayLeave old event) old.run before after

-- a lister that goes on made one step; it ends only behind all refusals of an event for which the disk is asked
abbrev pub TurnsFor : Bool → ℕ → ListState → DiskSeen → ListEvent → Reply → ListTurned → DiskSeen → Type 0
TurnsFor tells size state before event reply (On lister) after = Moves tells size state before event reply lister after
TurnsFor tells size state before event reply Ended after = CutsShort tells state before event after

-- ---- the disk

-- a lister that goes on is on it; else code FD is the reply, and the last call of the disk failed
abbrev pub EndsSo : Bool → DiskSeen → DiskSeen → Reply → ListTurned → Type 0
EndsSo tells before after reply (On lister) = IsTrue tells → IsListOn lister after.moments.now
EndsSo tells before after reply Ended = (reply ≡ fault_reply) × HasFailed before after

-- where the lister goes on, no call of the disk failed in its turn
abbrev pub NoneFailedIn : DiskSeen → DiskSeen → ListTurned → Type 0
NoneFailedIn before after (On lister) = NoneFailed before after
NoneFailedIn before after Ended = Unit {0}

-- Behind code 0 of a begin and of a slice the last call worked. Of the events of any run the bridge says it, and for sessions no call
-- is made.
abbrev pub Works : ListEvent → Reply → DiskSeen → Type 0
Works (Plain event) reply after = Unit {0}
Works Open reply after = Unit {0}
Works (Page number) reply after = Unit {0}
Works (Close number) reply after = Unit {0}
Works Begin reply after = reply.code ≡ 0 → IsFalse after.failed
Works (Slice asked) reply after = reply.code ≡ 0 → IsFalse after.failed

-- nothing is asked of it for sessions, nor for a begin or a slice that is refused, or wants memory
abbrev pub AsksNothingList : ListEvent → Reply → Type 0
AsksNothingList (Plain event) reply = AsksNothing event reply
AsksNothingList Open reply = Unit {0}
AsksNothingList (Page number) reply = Unit {0}
AsksNothingList (Close number) reply = Unit {0}
AsksNothingList Begin reply = IsUndone reply
AsksNothingList (Slice asked) reply = IsUndone reply

-- what an event leaves alone of the files: a begin and a slice the area that is selected
abbrev pub SparesList : Stored → ListEvent → (before after : Files) → Type 0
SparesList old (Plain event) = SparesFiles old event
SparesList old Open = Unchanged
SparesList old (Page number) = Unchanged
SparesList old (Close number) = Unchanged
SparesList old Begin = SparesSelected old
SparesList old (Slice asked) = SparesSelected old

-- a save runs behind the turn
abbrev pub IsSavingOnward : ListTurned → Type 0
IsSavingOnward (On lister) = IsTrue (is_some lister.saving)
IsSavingOnward Ended = ⊥

-- the file that is drafted is the only one that changes
abbrev pub DraftsAlone : Stored → (before after : DiskSeen) → Type 0
DraftsAlone old before after = EachMoment (LeavesOthers (drafted_by old.slots.count) before.moments.now) before.moments after.moments

-- A begin changes that file alone, and so does a slice behind which the save runs on.
abbrev pub Drafts : Stored → ListEvent → ListTurned → (before after : DiskSeen) → Type 0
Drafts old (Plain event) turned before after = Unit {0}
Drafts old Open turned before after = Unit {0}
Drafts old (Page number) turned before after = Unit {0}
Drafts old (Close number) turned before after = Unit {0}
Drafts old Begin turned before after = DraftsAlone old before after
Drafts old (Slice asked) turned before after = IsSavingOnward turned → DraftsAlone old before after

-- ---- the bridge below

abbrev pub bridge_in : ListTurned → Turned
bridge_in (On lister) = bridge.On lister.bridge
bridge_in Ended = bridge.Ended

-- it stays as it was
abbrev pub KeepsBridge : Bridged → ListTurned → Type 0
KeepsBridge bridge (On lister) = lister.bridge ≡ bridge
KeepsBridge bridge Ended = ⊥

-- where it goes on, it keeps the answers that it kept, and no fault is told
abbrev pub KeepsAnswersOf : Bridged → Reply → ListTurned → Type 0
KeepsAnswersOf bridge reply (On lister) = (lister.bridge.answers ≡ bridge.answers) × (reply.code ≢ fault_code)
KeepsAnswersOf bridge reply Ended = Unit {0}

-- what any run is asked the bridge answers; but a save while one runs in slices it isn't asked for
abbrev pub AsksPlain : {D : Type 0} → Bool → (D → DiskSeen) → Listed → Option Saving → D → Event → Reply → ListTurned → D → Type 0
AsksPlain tells seen old None before event reply turned after = AnswersEvent tells seen old.bridge before event reply (bridge_in turned) after
AsksPlain tells seen old (Some saving) before (Do command) reply turned after = AnswersEvent tells seen old.bridge before (Do command) reply (bridge_in turned) after
AsksPlain tells seen old (Some saving) before (Ask carrier message) reply turned after = AnswersEvent tells seen old.bridge before (Ask carrier message) reply (bridge_in turned) after
AsksPlain tells seen old (Some saving) before Save reply turned after = KeepsBridge old.bridge turned

-- it isn't concerned with listings, and a save in slices leaves its answers
abbrev pub AsksBridge : {D : Type 0} → Bool → (D → DiskSeen) → Listed → D → ListEvent → Reply → ListTurned → D → Type 0
AsksBridge tells seen old before (Plain event) reply turned after = AsksPlain tells seen old old.saving before event reply turned after
AsksBridge tells seen old before Open reply turned after = KeepsBridge old.bridge turned
AsksBridge tells seen old before (Page number) reply turned after = KeepsBridge old.bridge turned
AsksBridge tells seen old before (Close number) reply turned after = KeepsBridge old.bridge turned
AsksBridge tells seen old before Begin reply turned after = KeepsAnswersOf old.bridge reply turned
AsksBridge tells seen old before (Slice asked) reply turned after = KeepsAnswersOf old.bridge reply turned

-- pages have as many rows as before
abbrev pub KeepsPage : ℕ → ListTurned → Type 0
KeepsPage size (On lister) = lister.page ≡ size
KeepsPage size Ended = Unit {0}

-- ---- all of it

pub record AnswersList {D : Type 0} (tells : Bool) (seen : D → DiskSeen) (old : Listed) (before : D) (event : ListEvent) (reply : Reply) (turned : ListTurned) (after : D) : Type 0 where
  pub step : (state : ListState) → StandsFor old state → TurnsFor tells old.page state (seen before) event reply turned (seen after)
  pub later : NeverFell (seen before).faults (seen after).faults
  pub none : NoneFailedIn (seen before) (seen after) turned
  pub works : Works event reply (seen after)
  pub ends : EndsSo tells (seen before) (seen after) reply turned
  pub untouched : AsksNothingList event reply → after ≡ before
  pub others : IsTrue tells → EachMoment (SparesList old.bridge.store event (seen before).moments.now) (seen before).moments (seen after).moments
  pub drafts : IsTrue tells → Drafts old.bridge.store event turned (seen before) (seen after)
  pub bridge : AsksBridge tells seen old before event reply turned after
  pub page : KeepsPage old.page turned
