-- What making the files from a snapshot comes to.
use Rattle.std.specs.Prelude.{◌≡◌, ◌<◌, ◌^◌, ℕ, Bool, IsTrue, List, length, Result, Ok, Err, OnOk, IsErrOf}
use Rattle.std.specs.Io.KnownBytes.{Consumes}
use Rattle.fault_counts.specs.Faults.{NeverFell}
use Rattle.byte_io.specs.Source.{SourceSeen}
use Rattle.nmc_base.specs.declared.chain_ends.Base.{Base}
use Rattle.chain_names.specs.Log.{Log}
use Rattle.name_tables.specs.declared.parts.Parts.{Parts}
use Rattle.name_snapshot.specs.Answers.{HasStart}
use Rattle.name_snapshot.specs.Makes.{IsSnapshot}
use Rattle.name_snapshot.specs.Text.{StartMake, start_of}
use Rattle.name_snapshot.specs.SourceAnswers.{IsReadOut, ReadsSnapshot}
use Rattle.name_snapshot.specs.declared.feed_fault.FeedFault.{FeedFault}
use Rattle.name_snapshot.specs.declared.feed_fault.FeedFault.TheVariants as feeds
use Rattle.disk_model.specs.Moments.{EachMoment}
use Rattle.disk_model.specs.Changes.{LeavesFrom}
use Rattle.disk_model.specs.DiskSeen.{DiskSeen, HasFailed, EndsWith, file_in, bytes_in}
use Rattle.name_store.specs.Header.{IsInitialised, IsUninitialised}
use Rattle.name_store.specs.Making.{IsEmpty, EachIsBegun, OnlyReads}
use Rattle.name_store.specs.Starting.{IsStartText, CreateFromAnswer}
use Rattle.name_store.specs.Stands.{EachStands, begun_from}
use Rattle.name_store.specs.declared.faults.CreateFromFault.{CreateFromFault}
use Rattle.name_store.specs.declared.faults.CreateFromFault.TheVariants as makings
use Rattle.bridge_commands.specs.declared.start_fault.StartFault.{StartFault}
use Rattle.bridge_commands.specs.declared.start_fault.StartFault.TheVariants.{Initialised, Bad, InputLimit, SourceFault, DiskFault, NoMemory}

-- ---- faults

abbrev pub fault_of_feed : FeedFault → StartFault
fault_of_feed (feeds.Bad at) = Bad at
fault_of_feed feeds.SourceFault = SourceFault
fault_of_feed feeds.InputLimit = InputLimit
fault_of_feed feeds.NoMemory = NoMemory

abbrev pub fault_of_making : CreateFromFault → StartFault
fault_of_making makings.Initialised = Initialised
fault_of_making makings.DiskFault = DiskFault
fault_of_making makings.NoMemory = NoMemory

abbrev pub by_making : Result (Unit {0}) CreateFromFault → Result (Unit {0}) StartFault
by_making (Ok done) = Ok done
by_making (Err fault) = Err (fault_of_making fault)

-- ---- what was read

-- The source was read to its end, and gave a snapshot on the base, of fewer bytes than the limit: these makes.
pub record ReadsStart (base : Base) (limit : ℕ) (before after : SourceSeen) (makes : List StartMake) : Type 0 where
  pub taken : List ℕ
  pub took : Consumes before.left after.left taken
  pub read_out : IsReadOut limit after taken
  pub is_snapshot : IsSnapshot base taken makes

-- ---- the files

-- Whatever a crash leaves stands for the base with its host and this start list, without a command.
pub record StandsForStart (base : Base) (host : List ℕ) (start : Log) (new : DiskSeen) : Type 0 where
  pub text : List ℕ
  pub is_text : IsStartText base start text
  pub each : EachStands new.moments.now (begun_from base host start text)

-- from an empty file 0 a crash meanwhile leaves files that are uninitialised, or those
abbrev pub CrashesBegin : Bool → Base → List ℕ → Log → (old new : DiskSeen) → Type 0
CrashesBegin tells base host start old new =
    IsTrue tells → IsEmpty (file_in old 0) → (text : List ℕ) → IsStartText base start text → EachMoment (EachIsBegun (begun_from base host start text)) old.moments new.moments

-- ---- how it ends

-- Files that are initialised stay as they are, and a source that gives no snapshot has its cause; then no write and no cut was asked
-- for. Others are made of the whole snapshot. A fault of the disk may stand in the place of all, and want of memory in that of the
-- files made and of what is wrong with the source.
pub data StartEnds (tells : Bool) (base : Base) (host : List ℕ) (limit : ℕ) (old new : DiskSeen) (before after : SourceSeen) : Result (Unit {0}) StartFault → Type 0 where
  made : (makes : List StartMake) → ReadsStart base limit before after makes → (IsTrue tells → IsUninitialised (bytes_in old 0)) → (IsTrue tells → StandsForStart base host (start_of makes) new)
      → CrashesBegin tells base host (start_of makes) old new → StartEnds tells base host limit old new before after (Ok (record {}))
  broken : (makes : List StartMake) → ReadsStart base limit before after makes → HasFailed old new → CrashesBegin tells base host (start_of makes) old new
      → StartEnds tells base host limit old new before after (Err DiskFault)
  -- the look at file 0 failed, and the source wasn't read
  unread : HasFailed old new → OnlyReads tells old new → after ≡ before → StartEnds tells base host limit old new before after (Err DiskFault)
  stays : (IsTrue tells → IsInitialised (bytes_in old 0)) → OnlyReads tells old new → StartEnds tells base host limit old new before after (Err Initialised)
  no_snapshot : (fault : FeedFault) → ReadsSnapshot base limit before after (Err fault) → (IsTrue tells → IsUninitialised (bytes_in old 0)) → OnlyReads tells old new
      → StartEnds tells base host limit old new before after (Err (fault_of_feed fault))
  no_memory : (IsTrue tells → IsUninitialised (bytes_in old 0)) → OnlyReads tells old new → StartEnds tells base host limit old new before after (Err NoMemory)

-- What making the files from a snapshot did: how it ended, and what it left alone.
pub record StartsFrom (tells : Bool) (base : Base) (host : List ℕ) (limit : ℕ) (old new : DiskSeen) (before after : SourceSeen) (result : Result (Unit {0}) StartFault) : Type 0 where
  pub ending : StartEnds tells base host limit old new before after result
  pub others : IsTrue tells → EachMoment (LeavesFrom 2 old.moments.now) old.moments new.moments
  pub disk_later : NeverFell old.faults new.faults
  pub source_later : NeverFell before.faults after.faults

-- ---- the step behind the reading

-- the parts are those of a snapshot of fewer than 2^32 bytes
pub record HasRead (base : Base) (parts : Parts) : Type 0 where
  pub text : List ℕ
  pub has : HasStart base text parts
  pub short : length text < 2 ^ 32

-- what making the files of this start list says
pub record CreatesFrom (tells : Bool) (base : Base) (host : List ℕ) (start : Log) (old new : DiskSeen) (result : Result (Unit {0}) CreateFromFault) : Type 0 where
  pub answer : IsTrue tells → CreateFromAnswer (bytes_in old) result
  pub spared : IsErrOf result makings.Initialised → OnlyReads tells old new
  pub no_memory : IsErrOf result makings.NoMemory → OnlyReads tells old new
  pub made : IsTrue tells → OnOk result (StandsForStart base host start new)
  pub crashes : CrashesBegin tells base host start old new
  pub others : IsTrue tells → EachMoment (LeavesFrom 2 old.moments.now) old.moments new.moments
  pub ends : EndsWith makings.DiskFault old new result
