-- What `init` and `init-from` come to.
use Rattle.std.specs.Prelude.{◌≡◌, ℕ, Bool, IsTrue, List, Result, Ok, Err}
use Rattle.fault_counts.specs.Faults.{NeverFell}
use Rattle.nmc_base.specs.declared.chain_ends.Base.{Base}
use Rattle.disk_model.specs.Moments.{EachMoment}
use Rattle.disk_model.specs.Changes.{LeavesFrom}
use Rattle.disk_model.specs.DiskSeen.{DiskSeen, HasFailed, file_in, bytes_in}
use Rattle.name_store.specs.declared.faults.CreateFault.{CreateFault}
use Rattle.name_store.specs.declared.faults.CreateFault.TheVariants as faults
use Rattle.name_store.specs.Header.{IsInitialised, IsUninitialised}
use Rattle.name_store.specs.Making.{IsEmpty, EachIsBegun, OnlyReads}
use Rattle.name_store.specs.Stands.{EachStands, begun_on}
use Rattle.byte_io.specs.Source.{SourceSeen}
use Rattle.bridge_commands.specs.Starting.{StartsFrom}
use Rattle.bridge_commands.specs.declared.start_fault.StartFault.{StartFault}
use Rattle.bridge_commands.specs.declared.start_fault.StartFault.TheVariants as starts
use Rattle.bridge_core.specs.declared.status.Status.{Status}
use Rattle.bridge_core.specs.declared.status.Status.TheVariants.{Done, Initialised, DiskFault, SourceFault, NoMemory, InputLimit, BadSnapshot}

-- the status of a making that ended so
abbrev pub status_of_making : Result (Unit {0}) CreateFault → Status
status_of_making (Ok done) = Done
status_of_making (Err faults.Initialised) = Initialised
status_of_making (Err faults.DiskFault) = DiskFault

-- Files that are initialised stay as they are, and others are made. A fault of the disk may stand in the place of both, and
-- there is no other status. Where the disk doesn't tell its files, nothing is said of them.
pub data InitEnds (tells : Bool) (old new : DiskSeen) : Status → Type 0 where
  made : (IsTrue tells → IsUninitialised (bytes_in old 0)) → InitEnds tells old new Done
  stays : (IsTrue tells → IsInitialised (bytes_in old 0)) → OnlyReads tells old new → InitEnds tells old new Initialised
  failed : HasFailed old new → InitEnds tells old new DiskFault

-- What `init` of a base and the text of its host did. Once it is done, whatever a crash leaves stands for the base and its
-- host without a command; from an empty file 0 a crash meanwhile leaves files that are uninitialised, or those. File 2 stays as it is.
pub record Inits (tells : Bool) (base : Base) (host : List ℕ) (old new : DiskSeen) (status : Status) : Type 0 where
  pub ending : InitEnds tells old new status
  pub made : IsTrue tells → status ≡ Done → EachStands new.moments.now (begun_on base host)
  pub from_empty : IsTrue tells → IsEmpty (file_in old 0) → EachMoment (EachIsBegun (begun_on base host)) old.moments new.moments
  pub others : IsTrue tells → EachMoment (LeavesFrom 2 old.moments.now) old.moments new.moments
  pub later : NeverFell old.faults new.faults

-- ---- from a snapshot

-- the status of a making from a snapshot that ended so
abbrev pub status_of_start : Result (Unit {0}) StartFault → Status
status_of_start (Ok done) = Done
status_of_start (Err starts.Initialised) = Initialised
status_of_start (Err (starts.Bad at)) = BadSnapshot at
status_of_start (Err starts.InputLimit) = InputLimit
status_of_start (Err starts.SourceFault) = SourceFault
status_of_start (Err starts.DiskFault) = DiskFault
status_of_start (Err starts.NoMemory) = NoMemory

-- What `init-from` of a base, the text of its host and a source did: a snapshot of fewer bytes than the limit is read to its end, and
-- once it is done, whatever a crash leaves stands for the base with the snapshot's start list.
pub record InitsFrom (tells : Bool) (base : Base) (host : List ℕ) (limit : ℕ) (old new : DiskSeen) (before after : SourceSeen) (status : Status) : Type 0 where
  pub ended : Result (Unit {0}) StartFault
  pub starts : StartsFrom tells base host limit old new before after ended
  pub status_is : status ≡ status_of_start ended
