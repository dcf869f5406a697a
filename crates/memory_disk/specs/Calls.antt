-- What a call does to the file that it names, and how the moments of a disk follow from its calls.
use Rattle.std.specs.Prelude.{ℕ, ◌+◌, ◌==◌, ◌&&◌, ◌||◌, nat_lt, nat_le, min, max, if◌then◌else◌, Bool, List, [], ◌∷◌, length, take}
use Rattle.fault_counts.specs.Counts.{raised}
use Rattle.disk_model.specs.FileState.{FileState, synced_file, put}
use Rattle.disk_model.specs.Moments.{Moments, Files, after}

-- what was done, or what was named where the call failed
pub data Effect : Type 0 where
  looked : Effect
  written : (at : ℕ) (bytes : List ℕ) → Effect
  write_failed : (at count : ℕ) → Effect
  cut_to : (count : ℕ) → Effect
  cut_failed : (count : ℕ) → Effect
  synced : Effect

-- how many writes and cuts were asked for, where it was that many before the call that was to do this
abbrev pub asked_by : Effect → ℕ → ℕ
asked_by looked changes = changes
asked_by (written at bytes) changes = raised changes
asked_by (write_failed at count) changes = raised changes
asked_by (cut_to count) changes = raised changes
asked_by (cut_failed count) changes = raised changes
asked_by synced changes = changes

-- a call to one of the files
pub record DiskCall : Type 0 where
  pub file : ℕ
  pub effect : Effect

abbrev pub call_on : ℕ → Effect → DiskCall
call_on file effect = record { file = file; effect = effect }

-- the position is settled still after a write of so many bytes touched what it names
abbrev pub settled_outside : FileState → ℕ → ℕ → ℕ → Bool
settled_outside s at count p = s.settled p && (nat_lt p at || nat_le (at + count) p)

-- the file after it
abbrev pub effect_on : Effect → FileState → FileState
effect_on looked s = s
effect_on (written at bytes) s = record {
  bytes = put s.bytes at bytes;
  settled = settled_outside s at (length bytes);
  least = s.least;
  greatest = max s.greatest (at + length bytes);
}
effect_on (write_failed at count) s = record {
  bytes = s.bytes;
  settled = settled_outside s at count;
  least = s.least;
  greatest = max s.greatest (at + count);
}
effect_on (cut_to count) s = record {
  bytes = take count s.bytes;
  settled = λ p. s.settled p && nat_lt p count;
  least = min s.least count;
  greatest = s.greatest;
}
effect_on (cut_failed count) s = record {
  bytes = s.bytes;
  settled = λ p. s.settled p && nat_lt p count;
  least = min s.least count;
  greatest = s.greatest;
}
effect_on synced s = synced_file s.bytes

-- a file after a call, which may name another
abbrev pub step : ℕ → DiskCall → FileState → FileState
step file call s = if call.file == file then effect_on call.effect s else s

-- the files after a call
abbrev pub after_call : DiskCall → Files → Files
after_call call files = λ file. step file call (files file)

-- the file after these calls, the first of them first
abbrev pub file_from : ℕ → FileState → List DiskCall → FileState
file_from file s [] = s
file_from file s (call ∷ calls) = file_from file (step file call s) calls

-- the moments after these calls, the first of them first
abbrev pub moments_from : Moments → List DiskCall → Moments
moments_from m [] = m
moments_from m (call ∷ calls) = moments_from (after m (after_call call m.now)) calls

-- what the last successful sync of a file left, once this was done to it
abbrev pub left_by : Effect → FileState → List ℕ → List ℕ
left_by synced s last = s.bytes
left_by other s last = last

-- the same after these calls, where `last` is what the sync before them left
abbrev pub last_sync : ℕ → List ℕ → FileState → List DiskCall → List ℕ
last_sync file last s [] = last
last_sync file last s (call ∷ calls) = last_sync file (if call.file == file then left_by call.effect s last else last) (step file call s) calls
