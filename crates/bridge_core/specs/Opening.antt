-- How a command ends that hasn't begun its work: its files can't be opened, or memory runs out.
use Rattle.std.specs.Prelude.{◌≡◌, ℕ, Bool, IsTrue, IsFalse, Result, Ok, Err}
use Rattle.fault_counts.specs.Faults.{NeverFell}
use Rattle.disk_model.specs.Moments.{EachMoment}
use Rattle.disk_model.specs.Changes.{KeepsSettled}
use Rattle.disk_model.specs.DiskSeen.{DiskSeen, HasFailed, NoneFailed, bytes_in}
use Rattle.kept_answers.specs.Answering.{none_kept}
use Rattle.name_store.specs.Header.{IsUninitialised}
use Rattle.name_store.specs.Damage.{IsDamaged}
use Rattle.name_store.specs.Opening.{IsOpened, IsSynced}
use Rattle.name_store.specs.Stored.{Stored}
use Rattle.name_store.specs.declared.faults.OpenFault.{OpenFault}
use Rattle.name_store.specs.declared.faults.OpenFault.TheVariants as faults
use Rattle.bridge_core.specs.Bridged.{Bridged}
use Rattle.bridge_core.specs.declared.status.Status.{Status}
use Rattle.bridge_core.specs.declared.status.Status.TheVariants.{Done, Uninitialised, Damaged, DiskFault, NoMemory}

abbrev pub status_of_fault : OpenFault → Status
status_of_fault faults.Uninitialised = Uninitialised
status_of_fault (faults.Damaged file at) = Damaged file at
status_of_fault faults.DiskFault = DiskFault
status_of_fault faults.NoMemory = NoMemory

-- The files were read and synced alone: none was written or cut, and what was settled stayed so at each moment.
pub record WritesNothing (tells : Bool) (old new : DiskSeen) : Type 0 where
  pub unchanged : new.changes ≡ old.changes
  pub any_moment : IsTrue tells → EachMoment (KeepsSettled old.moments.now) old.moments new.moments

-- The files couldn't be opened, or memory ran out: each status with its cause.
pub data IsUnbegun (tells : Bool) (old new : DiskSeen) : Status → Type 0 where
  uninitialised : (IsTrue tells → IsUninitialised (bytes_in old 0)) → IsUnbegun tells old new Uninitialised
  damaged : (file at : ℕ) → (IsTrue tells → IsDamaged (bytes_in old) file at) → IsUnbegun tells old new (Damaged file at)
  disk_fault : HasFailed old new → IsUnbegun tells old new DiskFault
  no_memory : IsUnbegun tells old new NoMemory

-- the store of a bridge that was opened, or the fault
abbrev pub store_in : Result Bridged OpenFault → Result Stored OpenFault
store_in (Ok bridge) = Ok bridge.store
store_in (Err fault) = Err fault

-- The files, which were neither uninitialised nor damaged, were opened, each of the three synced: the bridge's store is on them, and
-- stands for each run state that they stood for. No answer is kept yet, and no call of the disk failed.
pub record HasOpened (tells : Bool) (old new : DiskSeen) (bridge : Bridged) : Type 0 where
  pub opened : IsTrue tells → IsOpened (bytes_in old) new.moments.now bridge.store
  pub empty : bridge.answers ≡ none_kept
  pub synced : IsTrue tells → IsSynced old new
  pub writes_nothing : WritesNothing tells old new
  pub worked : IsFalse new.failed
  pub none : NoneFailed old new
  pub later : NeverFell old.faults new.faults

-- the work was done, or memory ran out
pub data EndsWell : Status → Type 0 where
  is_done : EndsWell Done
  lacks_memory : EndsWell NoMemory
