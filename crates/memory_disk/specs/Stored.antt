-- What a disk in memory stores beside its list of calls.
use Rattle.std.specs.Prelude.{◌≡◌, ◌⊎◌, ℕ, ◌<◌, Bool, true, false, List, [], ◌∷◌, ◌++◌, slice_index_or}
use Rattle.disk_model.specs.FileState.{FileState}
use Rattle.disk_model.specs.Reads.{seen}
use Rattle.memory_disk.specs.Calls.{DiskCall, call_on, step}
use Rattle.memory_disk.specs.MemoryLog.{moments_after}
use Rattle.memory_disk.specs.Touched.{Touched, touched_at, LeavesAll, touch}
use Rattle.memory_disk.specs.Kept.{failed_effect, touched_in}
use Rattle.memory_disk.specs.declared.kept.KeptCall.{KeptCall}
use Rattle.memory_disk.specs.declared.kept.KeptEffect.TheVariants.{Failed}
use Rattle.memory_disk.specs.declared.kept.FailedEffect.{FailedEffect}
use Rattle.memory_disk.specs.declared.touched.TouchedFile.{TouchedFile}

-- The stored bytes are those that the calls in the list lead to. While the list has room, nothing is kept beside it.
pub record IsStored (files first : List (List ℕ)) (calls : List DiskCall) (is_full : Bool) (touched : List Touched) : Type 0 where
  pub bytes : (k : ℕ) → k < 3 → slice_index_or files k [] ≡ seen (moments_after first calls) k
  pub nothing_beside : is_full ≡ false → (k : ℕ) → k < 3 → LeavesAll (touched_at touched k) ((moments_after first calls).now k)

-- A failed call was put at the end of the list.
pub record PutInList (file : ℕ) (failed : FailedEffect) (old_calls new_calls : List KeptCall) (was_full is_full : Bool) (old new : List TouchedFile) : Type 0 where
  pub calls : new_calls ≡ old_calls ++ record { file = file; effect = Failed failed } ∷ []
  pub had_room : was_full ≡ false
  pub has_room : is_full ≡ false
  pub same : new ≡ old

-- It was added to what is kept beside the list, which has no room from then on.
pub record AddedBeside (file : ℕ) (failed : FailedEffect) (old_calls new_calls : List KeptCall) (is_full : Bool) (old new : List TouchedFile) : Type 0 where
  pub calls : new_calls ≡ old_calls
  pub has_no_room : is_full ≡ true
  pub files : (k : ℕ) (s : FileState) → touch (touched_at (touched_in new) k) s ≡ step k (call_on file (failed_effect failed)) (touch (touched_at (touched_in old) k) s)

-- one of the two
abbrev pub KeepsFailed : ℕ → FailedEffect → List KeptCall → List KeptCall → Bool → Bool → List TouchedFile → List TouchedFile → Type 0
KeepsFailed file failed old_calls new_calls was_full is_full old new =
    PutInList file failed old_calls new_calls was_full is_full old new ⊎ AddedBeside file failed old_calls new_calls is_full old new
