-- How a file that is built again goes on with one call more, and what its images are.
use Rattle.std.proofs.Common.{◌≡◌, ◌≢◌, ℕ, min, ◌+◌, ◌<◌, ◌≤◌, List, [], ◌∷◌, ◌++◌, length, take, get_or, Bool, true, false, ◌==◌, refl, sym, ◌∙◌, ap, subst, arith}
use Rattle.std.specs.Prelude.{if◌then◌else◌, ◌&&◌, nat_lt, slice_index, slice_index_or, Option, None, Some, Result, Ok, Err, IfOk}
use Rattle.std.proofs.lemmas.Bool.Decides.{nat_tests}
use Rattle.std.proofs.lemmas.List.{map-append, take_more, take_min, take_all, take-map}
use Rattle.disk_model.specs.FileState.{FileState, IsFileImage, synced_file}
use Rattle.disk_model.specs.Moments.{Files, Moments, after, IsImage}
use Rattle.memory_disk.specs.Calls.{DiskCall, effect_on, left_by, step, after_call, file_from, last_sync, moments_from}
use Rattle.memory_disk.specs.Touched.{Touched, touched_at, touch}
use Rattle.memory_disk.specs.Kept.{call_of, calls_of}
use Rattle.memory_disk.specs.MemoryLog.{DiskLog, first_files, moments_after, moments_touched, moments_of, files_at, synced_at}
use Rattle.memory_disk.specs.Chosen.{IsChosen}
use Rattle.memory_disk.specs.Sound.{IsSound, sound_from, sound_of, sound_synced}
use Rattle.memory_disk.specs.Replays.{IsReplayed}
use Rattle.memory_disk.proofs.TouchedLemmas.{low_test}
use Rattle.memory_disk.specs.declared.choice.Choice.{Choice}
use Rattle.memory_disk.specs.declared.choice.Choice.TheVariants.{Old, New, Fill}
use Rattle.memory_disk.specs.declared.kept.KeptCall.{KeptCall}
use Rattle.memory_disk.specs.declared.replay.Replay.{Replay}

pub file_from-push : (file : ℕ) (s : FileState) (calls : List DiskCall) (call : DiskCall) → file_from file s (calls ++ call ∷ []) ≡ step file call (file_from file s calls)
file_from-push file s [] call = refl
file_from-push file s (c ∷ calls) call = file_from-push file (step file c s) calls call

pub last_sync-push : (file : ℕ) (last : List ℕ) (s : FileState) (calls : List DiskCall) (call : DiskCall)
    → last_sync file last s (calls ++ call ∷ []) ≡ (if call.file == file then left_by call.effect (file_from file s calls) (last_sync file last s calls) else last_sync file last s calls)
last_sync-push file last s [] call = refl
last_sync-push file last s (c ∷ calls) call = last_sync-push file (if c.file == file then left_by c.effect s last else last) (step file c s) calls call

-- the files of a disk, one by one
pub now_from : (file : ℕ) (m : Moments) (calls : List DiskCall) → (moments_from m calls).now file ≡ file_from file (m.now file) calls
now_from file m [] = refl
now_from file m (c ∷ calls) = now_from file (after m (after_call c m.now)) calls

same_test : (a b : ℕ) → a ≡ b → (a == b) ≡ true
same_test a b same = grind (arith, nat_tests)

other_test : (a b : ℕ) → a ≢ b → (a == b) ≡ false
other_test a b differ = grind (arith, nat_tests)

-- one call more of those that are kept
pub one_more : (calls : List KeptCall) (i : ℕ) (call : KeptCall) → i < length calls → call ≡ get_or calls i call
    → calls_of (take (i + 1) calls) ≡ calls_of (take i calls) ++ call_of call ∷ []
one_more calls i call low is =
    ap calls_of (take_more calls i call low) ∙ map-append call_of (take i calls) (get_or calls i call ∷ [])
    ∙ ap (λ (k : KeptCall). calls_of (take i calls) ++ call_of k ∷ []) (sym is)

-- it is the file after these calls, of which a disk held this first
abbrev pub ReplayedTo : Replay → List ℕ → ℕ → List DiskCall → Type 0
ReplayedTo r first file calls = IsReplayed r (last_sync file first (synced_file first) calls) (file_from file (synced_file first) calls)

module _ (first : List ℕ) (file : ℕ) (calls : List DiskCall) (call : DiskCall) (r : Replay) where
  abbrev state : FileState
  state = file_from file (synced_file first) calls

  abbrev last : List ℕ
  last = last_sync file first (synced_file first) calls

  goes_on : (b : Bool) → (call.file == file) ≡ b
      → IsReplayed r (if b then left_by call.effect (file_from file (synced_file first) calls) (last_sync file first (synced_file first) calls) else last_sync file first (synced_file first) calls)
      (if b then effect_on call.effect (file_from file (synced_file first) calls) else file_from file (synced_file first) calls)
      → ReplayedTo r first file (calls ++ call ∷ [])
  goes_on b test so =
      let at_test = subst (λ x. IsReplayed r (if x then left_by call.effect state last else last) (if x then effect_on call.effect state else state)) (sym test) so in
      subst (λ (l : List ℕ). IsReplayed r l (file_from file (synced_file first) (calls ++ call ∷ []))) (sym (last_sync-push file first (synced_file first) calls call))
      (subst (λ (s : FileState). IsReplayed r (if call.file == file then left_by call.effect state last else last) s) (sym (file_from-push file (synced_file first) calls call)) at_test)

  pub replay_hit : call.file ≡ file
      → IsReplayed r (left_by call.effect (file_from file (synced_file first) calls) (last_sync file first (synced_file first) calls)) (effect_on call.effect (file_from file (synced_file first) calls))
      → ReplayedTo r first file (calls ++ call ∷ [])
  replay_hit here so = goes_on true (same_test call.file file here) so

  pub replay_miss : call.file ≢ file → ReplayedTo r first file calls → ReplayedTo r first file (calls ++ call ∷ [])
  replay_miss differ so = goes_on false (other_test call.file file differ) so

over_list : (listed calls : ℕ) → nat_lt listed calls ≡ true → listed ≤ calls
over_list listed calls test = grind (arith, nat_tests)

-- each choice is an image
pub IsChosen-image : (choice : Choice) (file : FileState) (last image : List ℕ) → IsSound last file → IsChosen choice file last image → IsFileImage file image
IsChosen-image Old file last image sound is = subst (IsFileImage file) (sym is) (record {
  no_shorter = sound.last_least;
  no_longer = sound.last_greatest;
  inside = λ p settled. let low = sound.inside p settled in omega (arith, low, sound.last_least);
  kept = sound.last_kept;
})
IsChosen-image New file last image sound is = subst (IsFileImage file) (sym is) (record {
  no_shorter = sound.least;
  no_longer = sound.greatest;
  inside = λ p settled. let low = sound.inside p settled in omega (arith, low, sound.least);
  kept = λ p settled. refl;
})
IsChosen-image (Fill byte) file last image sound is = record {
  no_shorter = omega (arith, is.size, sound.least, sound.greatest);
  no_longer = omega (arith, is.size);
  inside = λ p settled. let low = sound.inside p settled in omega (arith, low, is.size, sound.least, sound.greatest);
  kept = λ p settled. let low = sound.inside p settled in let within : p < file.greatest = omega (arith, low, sound.least, sound.greatest) in
      is.bytes p within ∙ ap (λ b. if b then slice_index file.bytes p else byte) settled;
}

-- a file of those in use, after all calls or after few of them
by_cases : (m : Moments) (few : FileState) (touched : List Touched) (file : ℕ) → file < 3 → (full past_list : Bool) → (past_list ≡ true → m.now file ≡ few)
    → (if past_list then (moments_touched (if full then Some touched else None) m).now file else few) ≡ (if full && past_list then touch (touched_at touched file) few else few)
by_cases m few touched file low true true all =
    ap (λ b. if b then touch (touched_at touched file) (m.now file) else m.now file) (low_test file low) ∙ ap (touch (touched_at touched file)) (all refl)
by_cases m few touched file low true false all = refl
by_cases m few touched file low false true all = all refl
by_cases m few touched file low false false all = refl

-- What was taken of the calls that are kept together leads to the files after so many calls.
pub file_at : (log : DiskLog) (is_full : Bool) (touched : List Touched) (calls file : ℕ) → file < 3 → log.together ≡ (if is_full then Some touched else None)
    → files_at log calls file
    ≡ (if is_full && nat_lt (length log.calls) calls then touch (touched_at touched file) (file_from file (synced_file (slice_index_or log.first file [])) (take calls log.calls)) else file_from file (synced_file (slice_index_or log.first file [])) (take calls log.calls))
file_at log is_full touched calls file low together =
    let past_list = nat_lt (length log.calls) calls in
    let all = moments_after log.first log.calls in
    let some = moments_after log.first (take calls log.calls) in
    let over : past_list ≡ true → all.now file ≡ some.now file = λ test. ap (λ (l : List DiskCall). (moments_after log.first l).now file) (sym (take_all calls log.calls (over_list (length log.calls) calls test))) in
    few_or_all past_list (moments_of log).now some.now file
    ∙ ap (λ (t : Option (List Touched)). if past_list then (moments_touched t all).now file else some.now file) together
    ∙ by_cases all (some.now file) touched file low is_full past_list over
    ∙ ap (λ (s : FileState). if is_full && past_list then touch (touched_at touched file) s else s) (now_from file (record { now = first_files log.first; past = [] }) (take calls log.calls))
  where
    few_or_all : (b : Bool) (a s : Files) (k : ℕ) → (if b then a else s) k ≡ (if b then a k else s k)
    few_or_all true a s k = refl
    few_or_all false a s k = refl

module _ (choice : Choice) (log : DiskLog) (calls : ℕ) where
  sound_at : (file : ℕ) (past_list : Bool) → nat_lt (length log.calls) calls ≡ past_list
      → IsSound (synced_at log calls file) ((if past_list then (moments_of log).now else (moments_after log.first (take calls log.calls)).now) file)
  sound_at file true test =
      let first = slice_index_or log.first file [] in
      subst (λ l. IsSound (last_sync file first (synced_file first) l) ((moments_of log).now file)) (sym (take_all calls log.calls (over_list (length log.calls) calls test))) (sound_of log file)
  sound_at file false test =
      let first = slice_index_or log.first file [] in
      sound_from file first (record { now = first_files log.first; past = [] }) (take calls log.calls) (sound_synced first)

  -- what is chosen of each file is an image of the disk
  pub image_disk : {E : Type 0} (result : Result DiskLog E)
      → IfOk result (λ disk. (file : ℕ) → file < 3 → IsChosen choice (files_at log calls file) (synced_at log calls file) (slice_index_or disk.first file []))
      → IfOk result (λ disk. IsImage (files_at log calls) (λ file. slice_index_or disk.first file []))
  image_disk (Ok disk) takes = λ file low.
      IsChosen-image choice (files_at log calls file) (synced_at log calls file) (slice_index_or disk.first file [])
      (sound_at file (nat_lt (length log.calls) calls) refl) (takes file low)
  image_disk (Err e) takes = tt

-- what the code takes: so many of the calls, or all of them
pub taken_calls : (kept : List KeptCall) (calls : ℕ) → calls_of (take (min calls (length kept)) kept) ≡ take calls (calls_of kept)
taken_calls kept calls = ap calls_of (take_min calls kept) ∙ sym (take-map call_of calls kept)
