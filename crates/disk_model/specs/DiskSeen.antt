-- What contracts see of a disk, and what each of its calls does.
use Rattle.std.specs.Prelude.{◌≡◌, ℕ, ◌≤◌, Bool, IsTrue, IsFalse, List, length, take, Result, OnOk, OnErr, IfOk, IsErrOf}
use Rattle.fault_counts.specs.Counts.{raised}
use Rattle.fault_counts.specs.Faults.{Faults, NeverFell, Rose}
use Rattle.disk_model.specs.FileState.{FileState, IsSettled, put}
use Rattle.disk_model.specs.Moments.{Moments, EachMoment}
use Rattle.disk_model.specs.Changes.{Changes, AfterWrite, AfterCut, AfterSync, Unchanged}
use Rattle.disk_model.specs.Reads.{IsRead}
use Rattle.disk_model.specs.declared.disk.Failed.{Failed}

-- The files now and at each moment before; how often the disk has failed, and whether its last call did; and how many writes
-- and cuts it was asked for, done or not. That number stands still at 2^64 - 1.
pub record DiskSeen : Type 0 where
  pub moments : Moments
  pub faults : Faults
  pub failed : Bool
  pub changes : ℕ

-- a file now
abbrev pub file_in : DiskSeen → ℕ → FileState
file_in disk file = disk.moments.now file

-- the bytes that a read of the file gives now
abbrev pub bytes_in : DiskSeen → ℕ → List ℕ
bytes_in disk file = (disk.moments.now file).bytes

-- ---- faults

-- the last call failed, and the count of faults rose
pub record HasFailed (old new : DiskSeen) : Type 0 where
  pub last : IsTrue new.failed
  pub rose : Rose old.faults new.faults

-- no call failed since: the disk has failed as often as before
abbrev pub NoneFailed : DiskSeen → DiskSeen → Type 0
NoneFailed old new = new.faults ≡ old.faults

-- One call or several, where this one of the errors is a fault of the disk: with it the last call failed, and at Ok it worked
-- and none before it failed.
pub record EndsWith {T E : Type 0} (fault : E) (old new : DiskSeen) (result : Result T E) : Type 0 where
  pub later : NeverFell old.faults new.faults
  pub worked : OnOk result (IsFalse new.failed)
  pub none : OnOk result (NoneFailed old new)
  pub failed : IsErrOf result fault → HasFailed old new

-- One call or several, where each error is a fault of the disk.
pub record Ends {T E : Type 0} (old new : DiskSeen) (result : Result T E) : Type 0 where
  pub later : NeverFell old.faults new.faults
  pub worked : OnOk result (IsFalse new.failed)
  pub none : OnOk result (NoneFailed old new)
  pub failed : OnErr result (HasFailed old new)

-- ---- the calls

-- What every call says: how it ended, and how many writes and cuts were asked for since.
pub record IsCall {T : Type 0} (changes : ℕ) (old new : DiskSeen) (result : Result T Failed) : Type 0 where
  pub ends : Ends old new result
  pub changes_are : new.changes ≡ changes

-- A length was asked for.
pub record Measures (tells : Bool) (file : ℕ) (old new : DiskSeen) (result : Result ℕ Failed) : Type 0 where
  pub size : IsTrue tells → IfOk result (λ n. n ≡ length (bytes_in old file))
  pub time : IsTrue tells → EachMoment (Unchanged old.moments.now) old.moments new.moments
  pub call : IsCall old.changes old new result

-- A read at a position, into a buffer of this room, left these bytes in the buffer.
pub record ReadsAt (tells : Bool) (file at room : ℕ) (into : List ℕ) (old new : DiskSeen) (result : Result ℕ Failed) : Type 0 where
  pub bound : IfOk result (λ n. n ≤ length into)
  pub bytes : IsTrue tells → IfOk result (λ n. IsRead (bytes_in old file) at room n into)
  pub time : IsTrue tells → EachMoment (Unchanged old.moments.now) old.moments new.moments
  pub call : IsCall old.changes old new result

-- These bytes were written at a position. What reads give after a write that failed is not said.
pub record WritesAt {T : Type 0} (tells : Bool) (file at : ℕ) (bytes : List ℕ) (old new : DiskSeen) (result : Result T Failed) : Type 0 where
  pub written : IsTrue tells → OnOk result (bytes_in new file ≡ put (bytes_in old file) at bytes)
  pub time : IsTrue tells → EachMoment (Changes file (AfterWrite at (length bytes)) old.moments.now) old.moments new.moments
  pub call : IsCall (raised old.changes) old new result

-- The file was cut to this length. What reads give after a cut that failed is not said.
pub record CutsTo {T : Type 0} (tells : Bool) (file size : ℕ) (old new : DiskSeen) (result : Result T Failed) : Type 0 where
  pub cut : IsTrue tells → OnOk result (bytes_in new file ≡ take size (bytes_in old file))
  pub time : IsTrue tells → EachMoment (Changes file (AfterCut size) old.moments.now) old.moments new.moments
  pub call : IsCall (raised old.changes) old new result

-- The file was synced: a crash leaves what reads give. A sync that failed settles nothing, and what reads give then
-- is not said.
pub record Syncs {T : Type 0} (tells : Bool) (file : ℕ) (old new : DiskSeen) (result : Result T Failed) : Type 0 where
  pub settled : IsTrue tells → OnOk result (IsSettled (file_in new file))
  pub same : IsTrue tells → OnOk result (bytes_in new file ≡ bytes_in old file)
  pub time : IsTrue tells → EachMoment (Changes file AfterSync old.moments.now) old.moments new.moments
  pub call : IsCall old.changes old new result
