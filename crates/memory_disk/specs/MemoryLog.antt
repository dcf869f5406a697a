-- A disk in memory as contracts see it: what its files held at first, and every call since.
use Rattle.std.specs.Prelude.{◌≡◌, ◌⊎◌, ℕ, true, false, if◌then◌else◌, nat_lt, List, [], ◌∷◌, ◌++◌, length, take, slice_index_or, Option, None, Some, IsSome, Result, OnOk, OnErr}
use Rattle.fault_counts.specs.Counts.{Counts, faults_of, fresh_counts, is_next_listed, after_call as counted, after_refusal}
use Rattle.disk_model.specs.FileState.{synced_file}
use Rattle.disk_model.specs.Moments.{Files, Moments, instead}
use Rattle.disk_model.specs.DiskSeen.{DiskSeen}
use Rattle.memory_disk.specs.Calls.{DiskCall, asked_by, after_call, moments_from, last_sync}
use Rattle.memory_disk.specs.Touched.{Touched, touch_each}

-- The calls that are kept one by one. From the first one on that the list had no room for, the list stays as it
-- is and every call fails: of these calls the disk keeps what they touched together. Beside them stands how many writes and cuts
-- were asked for, in the list or not.
pub record DiskLog : Type 0 where
  pub first : List (List ℕ)
  pub calls : List DiskCall
  pub together : Option (List Touched)
  pub counts : Counts
  pub changes : ℕ

-- a disk whose files hold these bytes, all of them settled, before any call
abbrev pub fresh_log : List (List ℕ) → List ℕ → DiskLog
fresh_log first fail = record { first = first; calls = []; together = None; counts = fresh_counts fail; changes = 0 }

-- the files before any call
abbrev pub first_files : List (List ℕ) → Files
first_files first = λ file. synced_file (slice_index_or first file [])

-- the moments after these calls
abbrev pub moments_after : List (List ℕ) → List DiskCall → Moments
moments_after first calls = moments_from (record { now = first_files first; past = [] }) calls

-- and after those that are kept together
abbrev pub moments_touched : Option (List Touched) → Moments → Moments
moments_touched None m = m
moments_touched (Some touched) m = instead m (touch_each touched m.now)

abbrev pub moments_of : DiskLog → Moments
moments_of log = moments_touched log.together (moments_after log.first log.calls)

-- the disk as contracts on any disk see it
abbrev pub memory_seen : DiskLog → DiskSeen
memory_seen log = record { moments = moments_of log; faults = faults_of log.counts; failed = log.counts.failed; changes = log.changes }

-- The files after so many of the calls. A number above those in the list means all calls, those that are kept
-- together too.
abbrev pub files_at : DiskLog → ℕ → Files
files_at log calls =
    if nat_lt (length log.calls) calls then (moments_of log).now else (moments_after log.first (take calls log.calls)).now

-- what the last successful sync of a file left, after so many of the calls
abbrev pub synced_at : DiskLog → ℕ → ℕ → List ℕ
synced_at log calls file =
    let first = slice_index_or log.first file [] in last_sync file first (synced_file first) (take calls log.calls)

-- The call was put at the end of the list.
pub record KeptInList (call : DiskCall) (old new : DiskLog) : Type 0 where
  pub calls : new.calls ≡ old.calls ++ call ∷ []
  pub had_room : old.together ≡ None
  pub has_room : new.together ≡ None

-- The list had no room for the failed call: it is kept together with those since, and counts as what it named.
pub record KeptTogether (failed : DiskCall) (old new : DiskLog) : Type 0 where
  pub calls : new.calls ≡ old.calls
  pub is_full : IsSome new.together
  pub files : (moments_of new).now ≡ after_call failed (moments_of old).now

-- A failed call counts as listed where it was in the list of those to fail, and else as one that found no memory.
abbrev pub FailureIsCounted : Counts → Counts → Type 0
FailureIsCounted old new =
    ((is_next_listed old ≡ true) × (new ≡ counted old)) ⊎ ((is_next_listed old ≡ false) × (new ≡ after_refusal (counted old)))

-- A call that was done is kept in the list, and was not to fail.
pub record WasDone (done : DiskCall) (old new : DiskLog) : Type 0 where
  pub is_not_listed : is_next_listed old.counts ≡ false
  pub counts : new.counts ≡ counted old.counts
  pub kept : KeptInList done old new

-- A call that failed is kept as what it named.
pub record HasFailed (failed : DiskCall) (old new : DiskLog) : Type 0 where
  pub counts : FailureIsCounted old.counts new.counts
  pub kept : KeptInList failed old new ⊎ KeptTogether failed old new

-- Each call is kept: as done at Ok, as failed at Err.
pub record KeepsCall {T E : Type 0} (done failed : DiskCall) (old new : DiskLog) (result : Result T E) : Type 0 where
  pub first : new.first ≡ old.first
  pub changes : new.changes ≡ asked_by done.effect old.changes
  pub ok : OnOk result (WasDone done old new)
  pub err : OnErr result (HasFailed failed old new)
