-- What a request comes to: what it answers of every run state that the store stands for, and what it leaves of the disk. So it is
-- of commands of each kind and of a save, whose refusals and whose condition of each are given, and what each of them does.
use Rattle.std.specs.Prelude.{◌≡◌, ℕ, ◌+◌, ◌<◌, Bool, IsTrue, IsFalse}
use Rattle.fault_counts.specs.Faults.{NeverFell}
use Rattle.disk_model.specs.Moments.{Files, EachMoment}
use Rattle.disk_model.specs.DiskSeen.{DiskSeen, HasFailed, NoneFailed, bytes_in}
use Rattle.nmc_base.specs.declared.chain_ends.Tip.{Tip}
use Rattle.chain_commands.specs.Event.{Command}
use Rattle.chain_commands.specs.RunState.{RunState, chain_of, area_of, record_length, accepted}
use Rattle.chain_commands.specs.Refusals.{Refusals, IsFirst, HasNoneBelow}
use Rattle.name_store.specs.declared.store.Outcome.{Outcome}
use Rattle.name_store.specs.declared.store.Outcome.TheVariants.{Done, Refused, NoMemory, Faulted}
use Rattle.name_store.specs.Stands.{Stands, EachStandsForEither}
use Rattle.name_store.specs.Stored.{Stored, StandsFor, IsOn, IsTipOf}

-- ---- by the outcome

-- P holds of the store where the request was done
abbrev pub IfDone : {T R : Type 0} → (Stored → Type 0) → Outcome T R → Type 0
IfDone P (Done store told) = P store
IfDone P (Refused store refusal) = Unit {0}
IfDone P (NoMemory store) = Unit {0}
IfDone P Faulted = Unit {0}

-- P holds where nothing was done
abbrev pub IfUndone : {T R : Type 0} → Type 0 → Outcome T R → Type 0
IfUndone P (Done store told) = Unit {0}
IfUndone P (Refused store refusal) = P
IfUndone P (NoMemory store) = P
IfUndone P Faulted = Unit {0}

-- P holds where the disk failed
abbrev pub IfFaulted : {T R : Type 0} → Type 0 → Outcome T R → Type 0
IfFaulted P (Done store told) = Unit {0}
IfFaulted P (Refused store refusal) = Unit {0}
IfFaulted P (NoMemory store) = Unit {0}
IfFaulted P Faulted = P

-- P holds of the store that is handed back
abbrev pub IfHeld : {T R : Type 0} → (Stored → Type 0) → Outcome T R → Type 0
IfHeld P (Done store told) = P store
IfHeld P (Refused store refusal) = P store
IfHeld P (NoMemory store) = P store
IfHeld P Faulted = Unit {0}

-- ---- the answer

-- an area of at most so many bytes has no room for the command
abbrev pub IsFullOf : ℕ → RunState → Command → Type 0
IsFullOf most run command = most < area_of run + record_length command

-- the command is accepted: the store stands for the run state with it, and its tip is told
pub record IsDone (run : RunState) (command : Command) (store : Stored) (tip : Tip) : Type 0 where
  pub stands : StandsFor store (accepted run command)
  pub tip_is : IsTipOf tip (chain_of (accepted run command))

-- The request is done where it has no refusal. Where it is refused, and where memory is wanting, the store stands for the same run
-- state. A fault of the disk comes only behind all refusals.
abbrev pub AnswersFor : {T R M : Type 0} → Refusals M → (M → Type 0) → (R → M) → (Stored → T → Type 0) → RunState → Outcome T R → Type 0
AnswersFor refusals Holds seen Does run (Done store told) = HasNoneBelow Holds refusals.order refusals.places × Does store told
AnswersFor refusals Holds seen Does run (Refused store refusal) = IsFirst Holds refusals.order (seen refusal) × StandsFor store run
AnswersFor refusals Holds seen Does run (NoMemory store) = HasNoneBelow Holds refusals.order refusals.before_memory × StandsFor store run
AnswersFor refusals Holds seen Does run Faulted = HasNoneBelow Holds refusals.order refusals.places

-- ---- the disk

-- What a request leaves of a disk, whatever the store stands for. Its last call worked where the request was done, and failed where
-- a fault is told. Where a store is handed back no call failed, and the store is on the disk. At each moment what the request spares
-- of the files is as it was.
pub record LeavesDisk {T R : Type 0} (tells : Bool) (Spares : (old new : Files) → Type 0) (before after : DiskSeen) (outcome : Outcome T R) : Type 0 where
  pub later : NeverFell before.faults after.faults
  pub worked : IfDone (λ store. IsFalse after.failed) outcome
  pub none : IfHeld (λ store. NoneFailed before after) outcome
  pub failed : IfFaulted (HasFailed before after) outcome
  pub still_on : IsTrue tells → IfHeld (λ store. IsOn store after.moments.now) outcome
  pub others : IsTrue tells → EachMoment (Spares before.moments.now) before.moments after.moments

-- the run state that may stand on the disk besides: one that the request makes, where it was done or the disk failed, and else the old one
abbrev pub IsNext : {T R : Type 0} → (RunState → Type 0) → RunState → RunState → Outcome T R → Type 0
IsNext Makes run next (Done store told) = Makes next
IsNext Makes run next (Refused store refusal) = next ≡ run
IsNext Makes run next (NoMemory store) = next ≡ run
IsNext Makes run next Faulted = Makes next

-- What it leaves of files that stood for a run state: a crash at any moment leaves files that stand for it or for the next one; and for
-- that one they stand once the request is done.
pub record OutlivesCrashes {T R : Type 0} (Makes : RunState → Type 0) (run : RunState) (before after : DiskSeen) (outcome : Outcome T R) : Type 0 where
  pub next : RunState
  pub is_next : IsNext Makes run next outcome
  pub done : IfDone (λ store. Stands (bytes_in after) next) outcome
  pub any_moment : EachMoment (EachStandsForEither run next) before.moments after.moments

-- of every run state that the store and the files stood for
abbrev pub KeepsOn : {T R : Type 0} → Bool → Stored → (RunState → RunState → Type 0) → DiskSeen → DiskSeen → Outcome T R → Type 0
KeepsOn tells old Makes before after outcome = IsTrue tells → (run : RunState) → StandsFor old run → Stands (bytes_in before) run
    → OutlivesCrashes (Makes run) run before after outcome

-- a command makes one run state of another: it is accepted
abbrev pub Adds : Command → RunState → RunState → Type 0
Adds command run next = next ≡ accepted run command
