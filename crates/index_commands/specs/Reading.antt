-- What reading the commands of an area answers, one by one and all.
use Rattle.std.specs.Prelude.{◌≡◌, ℕ, ◌+◌, ◌-◌, ◌<◌, ◌≤◌, Bool, IsTrue, List, length, take, Result, Ok, Err, IfOk, ⊤}
use Rattle.disk_model.specs.Moments.{EachMoment}
use Rattle.disk_model.specs.Changes.{Unchanged}
use Rattle.disk_model.specs.DiskSeen.{DiskSeen, EndsWith, bytes_in}
use Rattle.chain_state.specs.Chain.{Indexed}
use Rattle.gate_journal.specs.Stand.{Stand}
use Rattle.gate_journal.specs.declared.faults.JournalFault.{JournalFault}
use Rattle.gate_journal.specs.declared.faults.JournalFault.TheVariants.{Damaged, DiskFault, NoMemory}
use Rattle.chain_commands.specs.Event.{Command}
use Rattle.chain_commands.specs.RunState.{grown_by}
use Rattle.index_commands.specs.Taking.{LeadsTo}
use Rattle.index_commands.specs.declared.areas.Followed.{Followed}
use Rattle.index_commands.specs.declared.reading.Reading.{Reading}
use Rattle.index_commands.specs.declared.reading.Stepped.{Stepped}
use Rattle.index_commands.specs.declared.reading.Stepped.TheVariants as stepped
use Rattle.index_commands.specs.Commands.{Origin, HasCommands, IsShut}
use Rattle.index_commands.specs.Damage.{HasBadRecord}

-- the journal stands at the gate behind this front, with which the area begins where the disk tells it
pub record IsBehind (tells : Bool) (front : List ℕ) (journal : Stand) (area : List ℕ) : Type 0 where
  pub length_is : journal.length ≡ length front + 1
  pub begins : IsTrue tells → take (length front) area ≡ front
  pub inside : IsTrue tells → length front < length area

-- a journal in the file of an area, which has no more bytes than the longest
pub record IsInArea (longest file : ℕ) (journal : Stand) : Type 0 where
  pub file_is : journal.file ≡ file
  pub limit_is : journal.limit ≡ longest
  pub some : 9 ≤ journal.length
  pub within : journal.length ≤ longest

-- ---- the commands

-- These commands were followed, and lead from the first index to this one. Where the disk tells its files, their records are those of
-- the area so far.
pub record HasFollowed (tells : Bool) (longest : ℕ) (first : Origin) (area : List ℕ) (index : Indexed) (reached : ℕ) : Type 0 where
  pub commands : List Command
  pub leads : LeadsTo first.index commands index
  pub reached_is : reached ≡ grown_by commands (length first.front + 1)
  pub read : IsTrue tells → HasCommands first.front longest area commands

-- and behind them stands a closed gate
pub record HasFollowedAll (tells : Bool) (longest : ℕ) (first : Origin) (area : List ℕ) (index : Indexed) (reached : ℕ) : Type 0 where
  pub some : HasFollowed tells longest first area index reached
  pub shut : IsTrue tells → IsShut area (reached - 1)

-- ---- one step of reading them, and all of them

abbrev pub StepAnswer : Bool → (longest : ℕ) → Origin → (area : List ℕ) → Result Stepped JournalFault → Type 0
StepAnswer tells longest first area (Ok (stepped.More reading)) = HasFollowed tells longest first area reading.chain reading.journal.length
StepAnswer tells longest first area (Ok (stepped.All reading)) = HasFollowedAll tells longest first area reading.chain reading.journal.length
StepAnswer tells longest first area (Err (Damaged at)) = IsTrue tells → HasBadRecord first longest area at
StepAnswer tells longest first area (Err DiskFault) = ⊤
StepAnswer tells longest first area (Err NoMemory) = ⊤

-- wherever the commands begin that were followed so far
abbrev pub StepsOn : Bool → (longest : ℕ) → Reading → (area : List ℕ) → Result Stepped JournalFault → Type 0
StepsOn tells longest old area result =
    (first : Origin) → HasFollowed tells longest first area old.chain old.journal.length → StepAnswer tells longest first area result

-- the journal went on by a record, or stands at its gate
abbrev pub MovesOn : (longest file : ℕ) → Stand → Stepped → Type 0
MovesOn longest file old (stepped.More reading) = IsInArea longest file reading.journal × (old.length + 5 ≤ reading.journal.length)
MovesOn longest file old (stepped.All reading) = IsInArea longest file reading.journal × (reading.journal.length ≡ old.length)

abbrev pub reading_of : Stepped → Reading
reading_of (stepped.More reading) = reading
reading_of (stepped.All reading) = reading

abbrev pub AllAnswer : Bool → (longest : ℕ) → Origin → (area : List ℕ) → Result Reading JournalFault → Type 0
AllAnswer tells longest first area (Ok reading) = HasFollowedAll tells longest first area reading.chain reading.journal.length
AllAnswer tells longest first area (Err (Damaged at)) = IsTrue tells → HasBadRecord first longest area at
AllAnswer tells longest first area (Err DiskFault) = ⊤
AllAnswer tells longest first area (Err NoMemory) = ⊤

abbrev pub ReadsAll : Bool → (longest : ℕ) → Reading → (area : List ℕ) → Result Reading JournalFault → Type 0
ReadsAll tells longest old area result =
    (first : Origin) → HasFollowed tells longest first area old.chain old.journal.length → AllAnswer tells longest first area result

-- from this index on, wherever the journal's first gate stands
abbrev pub FollowsArea : Bool → (longest : ℕ) → Indexed → Stand → (area : List ℕ) → Result Reading JournalFault → Type 0
FollowsArea tells longest index journal area result =
    (front : List ℕ) → IsBehind tells front journal area → AllAnswer tells longest (record { front = front; index = index }) area result

-- ---- from a gate on

-- the index behind all commands, and the length of the area up to and including the closed gate behind them
abbrev pub FollowedAnswer : Bool → (longest : ℕ) → Origin → (area : List ℕ) → Result Followed JournalFault → Type 0
FollowedAnswer tells longest first area (Ok followed) = HasFollowedAll tells longest first area followed.index followed.length
FollowedAnswer tells longest first area (Err (Damaged at)) = IsTrue tells → HasBadRecord first longest area at
FollowedAnswer tells longest first area (Err DiskFault) = ⊤
FollowedAnswer tells longest first area (Err NoMemory) = ⊤

-- the file has this front, and a gate behind it
pub record IsFrontOf (front file : List ℕ) : Type 0 where
  pub begins : take (length front) file ≡ front
  pub inside : length front < length file

-- All commands behind a gate were followed, from this index on, whatever front stands before the gate, in an area that has no more bytes
-- than the longest. No write and no cut was asked for.
pub record FollowsCommands (tells : Bool) (longest : ℕ) (index : Indexed) (file gate : ℕ) (old new : DiskSeen) (result : Result Followed JournalFault) : Type 0 where
  pub answer : (front : List ℕ) → gate ≡ length front → (IsTrue tells → IsFrontOf front (bytes_in old file))
      → FollowedAnswer tells longest (record { front = front; index = index }) (bytes_in old file) result
  pub length : IfOk result (λ followed. (9 ≤ followed.length) × (followed.length ≤ longest))
  pub unchanged : IsTrue tells → EachMoment (Unchanged old.moments.now) old.moments new.moments
  pub reads : new.changes ≡ old.changes
  pub ends : EndsWith DiskFault old new result
