-- What a kept call says of the moments of a disk in memory.
use Rattle.std.proofs.Common.{◌≡◌, ◌⊎◌, inl, inr, ℕ, ◌≤◌, List, [], length, take, Bool, true, false, ◌==◌, refl, sym, ◌∙◌, ap, subst, arith}
use Rattle.std.specs.Prelude.{IsTrue, Result, Ok, Err, Option, None, Some, OnOk, OnErr, if◌then◌else◌, ◌&&◌}
use Rattle.disk_model.specs.FileState.{FileState, IsFileImage, IsSettled, put}
use Rattle.disk_model.specs.Moments.{Files, Moments, EachMoment, start, more, wider, after, instead, Widens}
use Rattle.disk_model.specs.Changes.{Changes, AfterWrite, AfterCut, AfterSync, Unchanged}
use Rattle.disk_model.specs.Reads.{seen}
use Rattle.memory_disk.specs.Calls.{Effect, looked, written, write_failed, cut_to, cut_failed, synced, DiskCall, call_on, effect_on, after_call}
use Rattle.memory_disk.specs.Touched.{Touched}
use Rattle.memory_disk.specs.MemoryLog.{DiskLog, first_files, moments_after, moments_touched, moments_of, KeptInList, KeptTogether, KeepsCall}
use Rattle.memory_disk.specs.Sound.{last_of, sound_of, IsSettled-synced}
use Rattle.disk_model.proofs.MomentLemmas.{last_moment}
use Rattle.memory_disk.proofs.CallLemmas.{moments_from-push, step_here, changes_by, AfterWrite_refl, AfterCut_refl, AfterSync_refl, AfterWrite-written, AfterWrite-failed, AfterCut-cut, AfterCut-failed, AfterSync-synced}

pub moments_listed : (old new : DiskLog) (call : DiskCall) → new.first ≡ old.first → KeptInList call old new
    → moments_of new ≡ after (moments_of old) (after_call call (moments_of old).now)
moments_listed old new call first kept =
    (λ i. moments_touched (kept.has_room i) (moments_after (first i) (kept.calls i)))
    ∙ moments_from-push (record { now = first_files old.first; past = [] }) old.calls call
    ∙ ap (λ (t : Option (List Touched)). after (moments_touched t (moments_after old.first old.calls)) (after_call call (moments_touched t (moments_after old.first old.calls)).now)) (sym kept.had_room)

past_touched : (together : Option (List Touched)) (m : Moments) → (moments_touched together m).past ≡ m.past
past_touched None m = refl
past_touched (Some touched) m = refl

pub moments_together : (old new : DiskLog) (failed : DiskCall) → new.first ≡ old.first → KeptTogether failed old new
    → moments_of new ≡ instead (moments_of old) (after_call failed (moments_of old).now)
moments_together old new failed first kept =
    let past : (moments_of new).past ≡ (moments_of old).past =
    past_touched new.together (moments_after new.first new.calls) ∙ (λ i. (moments_after (first i) (kept.calls i)).past)
    ∙ sym (past_touched old.together (moments_after old.first old.calls)) in
    λ i. record { now = kept.files i; past = past i }

-- the files after a call that is kept in the list
pub files_listed : (old new : DiskLog) (call : DiskCall) → new.first ≡ old.first → KeptInList call old new
    → (moments_of new).now ≡ after_call call (moments_of old).now
files_listed old new call first kept = ap (λ (m : Moments). m.now) (moments_listed old new call first kept)

pub files_failed : (old new : DiskLog) (failed : DiskCall) → new.first ≡ old.first → KeptInList failed old new ⊎ KeptTogether failed old new
    → (moments_of new).now ≡ after_call failed (moments_of old).now
files_failed old new failed first (inl listed) = files_listed old new failed first listed
files_failed old new failed first (inr together) = together.files

-- a call that failed touched what it named
pub touched_failed : {T E : Type 0} (old new : DiskLog) (done failed : DiskCall) (result : Result T E) → KeepsCall done failed old new result
    → OnErr result ((moments_of new).now ≡ after_call failed (moments_of old).now)
touched_failed old new done failed (Ok x) keeps = tt
touched_failed old new done failed (Err e) keeps = files_failed old new failed keeps.first keeps.err.kept

-- What failed leaves each image possible.
abbrev pub WidensFile : Effect → Type 0
WidensFile failed = (s : FileState) (image : List ℕ) → IsFileImage s image → IsFileImage (effect_on failed s) image

both : (a b : Bool) → IsTrue (a && b) → IsTrue a
both true b is = refl
both false b is = is

pub widens_look : WidensFile looked
widens_look s image is = is

pub widens_write : (at count : ℕ) → WidensFile (write_failed at count)
widens_write at count s image is = record {
  no_shorter = is.no_shorter;
  no_longer = omega (arith, is.no_longer);
  inside = λ p settled. is.inside p (both (s.settled p) _ settled);
  kept = λ p settled. is.kept p (both (s.settled p) _ settled);
}

pub widens_cut : (count : ℕ) → WidensFile (cut_failed count)
widens_cut count s image is = record {
  no_shorter = omega (arith, is.no_shorter);
  no_longer = is.no_longer;
  inside = λ p settled. is.inside p (both (s.settled p) _ settled);
  kept = λ p settled. is.kept p (both (s.settled p) _ settled);
}

widens_files : (file : ℕ) (failed : Effect) (files : Files) → WidensFile failed → Widens files (after_call (call_on file failed) files)
widens_files file failed files widens image is k low =
    elim (file == k) as (λ b. IsFileImage (if b then effect_on failed (files k) else files k) (image k)) [
      | true ↦ widens (files k) (image k) (is k low)
      | false ↦ is k low
    ]

-- from a moment to the next one, where a fact of the files holds before a call and after it
time_listed : (P : Files → Type 0) (old new : Moments) (call : DiskCall) → new ≡ after old (after_call call old.now) → P old.now → P (after_call call old.now) → EachMoment P old new
time_listed P old new call is before later = subst (λ (m : Moments). EachMoment P old m) (sym is) (more old (after_call call old.now) (start before) later)

-- at the same moment, where the failed call leaves each image possible
time_together : (P : Files → Type 0) (old new : Moments) (failed : DiskCall) → new ≡ instead old (after_call failed old.now) → Widens old.now (after_call failed old.now) → P old.now
    → P (after_call failed old.now) → EachMoment P old new
time_together P old new failed is widens before later = subst (λ (m : Moments). EachMoment P old m) (sym is) (wider old (after_call failed old.now) widens (start before) later)

-- a call on a file: what it does, and what it touches where it fails
record FileCall : Type 0 where
  file : ℕ
  done : Effect
  failed : Effect

-- The change is made by the call, done or failed, and by nothing too; where it fails, each image stays possible.
record Makes (change : FileState → FileState → Type 0) (call : FileCall) (s : FileState) : Type 0 where
  none : change s s
  by_done : change s (effect_on call.done s)
  by_failed : change s (effect_on call.failed s)
  widens : WidensFile call.failed

time_kept : {T E : Type 0} (change : FileState → FileState → Type 0) (call : FileCall) (old new : DiskLog) (result : Result T E)
    → KeepsCall (call_on call.file call.done) (call_on call.file call.failed) old new result → Makes change call ((moments_of old).now call.file)
    → EachMoment (Changes call.file change (moments_of old).now) (moments_of old) (moments_of new)
time_kept change call old new (Ok x) keeps makes =
    let files = (moments_of old).now in
    let done = call_on call.file call.done in
    time_listed (Changes call.file change files) (moments_of old) (moments_of new) done (moments_listed old new done keeps.first keeps.ok.kept)
    (record { here = makes.none; others = λ other differ. refl }) (changes_by change call.file call.done files makes.by_done)
time_kept change call old new (Err e) keeps makes =
    let files = (moments_of old).now in
    let failed = call_on call.file call.failed in
    let before : Changes call.file change files files = record { here = makes.none; others = λ other differ. refl } in
    let later = changes_by change call.file call.failed files makes.by_failed in
    elim keeps.err.kept [
      | inl listed ↦ time_listed (Changes call.file change files) (moments_of old) (moments_of new) failed (moments_listed old new failed keeps.first listed) before later
      | inr together ↦
          time_together (Changes call.file change files) (moments_of old) (moments_of new) failed (moments_together old new failed keeps.first together)
          (widens_files call.file call.failed files makes.widens) before later
    ]

module _ {T E : Type 0} (old new : DiskLog) (file : ℕ) (result : Result T E) where
  pub write_time : (at : ℕ) (bytes : List ℕ) → at ≤ length (seen (moments_of old) file)
      → KeepsCall (call_on file (written at bytes)) (call_on file (write_failed at (length bytes))) old new result
      → EachMoment (Changes file (AfterWrite at (length bytes)) (moments_of old).now) (moments_of old) (moments_of new)
  write_time at bytes inside keeps =
      let s = (moments_of old).now file in
      time_kept (AfterWrite at (length bytes)) (record { file = file; done = written at bytes; failed = write_failed at (length bytes) }) old new result keeps (record {
        none = AfterWrite_refl at (length bytes) s;
        by_done = AfterWrite-written at bytes s inside;
        by_failed = AfterWrite-failed at (length bytes) s;
        widens = widens_write at (length bytes);
      })

  pub cut_time : (count : ℕ) → KeepsCall (call_on file (cut_to count)) (call_on file (cut_failed count)) old new result
      → EachMoment (Changes file (AfterCut count) (moments_of old).now) (moments_of old) (moments_of new)
  cut_time count keeps =
      let s = (moments_of old).now file in
      time_kept (AfterCut count) (record { file = file; done = cut_to count; failed = cut_failed count }) old new result keeps (record {
        none = AfterCut_refl count s;
        by_done = AfterCut-cut count s;
        by_failed = AfterCut-failed count s;
        widens = widens_cut count;
      })

  pub sync_time : KeepsCall (call_on file synced) (call_on file looked) old new result
      → EachMoment (Changes file AfterSync (moments_of old).now) (moments_of old) (moments_of new)
  sync_time keeps =
      let s = (moments_of old).now file in
      time_kept AfterSync (record { file = file; done = synced; failed = looked }) old new result keeps (record {
        none = AfterSync_refl s;
        by_done = AfterSync-synced (last_of old file) s (sound_of old file);
        by_failed = AfterSync_refl s;
        widens = widens_look;
      })

-- a look leaves the files
same_either : (b : Bool) (s : FileState) → (if b then s else s) ≡ s
same_either true s = refl
same_either false s = refl

after_look : (file : ℕ) (files : Files) → after_call (call_on file looked) files ≡ files
after_look file files = λ i other. same_either (file == other) (files other) i

pub look_time : {T E : Type 0} (old new : DiskLog) (file : ℕ) (result : Result T E)
    → KeepsCall (call_on file looked) (call_on file looked) old new result
    → EachMoment (Unchanged (moments_of old).now) (moments_of old) (moments_of new)
look_time {T = T} {E = E} old new file result keeps = by_calls result keeps
  where
    listed : new.first ≡ old.first → KeptInList (call_on file looked) old new → EachMoment (Unchanged (moments_of old).now) (moments_of old) (moments_of new)
    listed first kept = subst (λ m. EachMoment (Unchanged (moments_of old).now) (moments_of old) m) (sym (moments_listed old new (call_on file looked) first kept))
        (more (moments_of old) (after_call (call_on file looked) (moments_of old).now) (start refl) (after_look file (moments_of old).now))

    by_calls : (r : Result T E) → KeepsCall (call_on file looked) (call_on file looked) old new r → EachMoment (Unchanged (moments_of old).now) (moments_of old) (moments_of new)
    by_calls (Ok x) keeps = listed keeps.first keeps.ok.kept
    by_calls (Err e) keeps = elim keeps.err.kept [
      | inl in_list ↦ listed keeps.first in_list
      | inr together ↦ subst (λ m. EachMoment (Unchanged (moments_of old).now) (moments_of old) m) (sym (moments_together old new (call_on file looked) keeps.first together))
          (wider (moments_of old) (after_call (call_on file looked) (moments_of old).now) (widens_files file looked (moments_of old).now widens_look) (start refl)
          (after_look file (moments_of old).now))
    ]

pub look_seen : {T E : Type 0} (old new : DiskLog) (file k : ℕ) (result : Result T E) → KeepsCall (call_on file looked) (call_on file looked) old new result
    → seen (moments_of new) k ≡ seen (moments_of old) k
look_seen old new file k result keeps = let same = last_moment (look_time old new file result keeps) in ap (λ (files : Files). (files k).bytes) same

-- what reads give of the file after a call to it
seen_by : (old new : DiskLog) (file : ℕ) (effect : Effect) → (moments_of new).now ≡ after_call (call_on file effect) (moments_of old).now
    → (moments_of new).now file ≡ effect_on effect ((moments_of old).now file)
seen_by old new file effect files = ap (λ (f : Files). f file) files ∙ step_here file effect ((moments_of old).now file)

pub write_seen : {T E : Type 0} (old new : DiskLog) (file at : ℕ) (bytes : List ℕ) (failed : DiskCall) (result : Result T E) → KeepsCall (call_on file (written at bytes)) failed old new result
    → OnOk result (seen (moments_of new) file ≡ put (seen (moments_of old) file) at bytes)
write_seen old new file at bytes failed (Ok x) keeps =
    ap (λ (s : FileState). s.bytes) (seen_by old new file (written at bytes) (files_listed old new (call_on file (written at bytes)) keeps.first keeps.ok.kept))
write_seen old new file at bytes failed (Err e) keeps = tt

pub cut_seen : {T E : Type 0} (old new : DiskLog) (file count : ℕ) (failed : DiskCall) (result : Result T E) → KeepsCall (call_on file (cut_to count)) failed old new result
    → OnOk result (seen (moments_of new) file ≡ take count (seen (moments_of old) file))
cut_seen old new file count failed (Ok x) keeps =
    ap (λ (s : FileState). s.bytes) (seen_by old new file (cut_to count) (files_listed old new (call_on file (cut_to count)) keeps.first keeps.ok.kept))
cut_seen old new file count failed (Err e) keeps = tt

pub sync_settles : {T E : Type 0} (old new : DiskLog) (file : ℕ) (failed : DiskCall) (result : Result T E) → KeepsCall (call_on file synced) failed old new result
    → OnOk result (IsSettled ((moments_of new).now file))
sync_settles old new file failed (Ok x) keeps =
    subst IsSettled (sym (seen_by old new file synced (files_listed old new (call_on file synced) keeps.first keeps.ok.kept))) (IsSettled-synced (seen (moments_of old) file))
sync_settles old new file failed (Err e) keeps = tt

pub sync_seen : {T E : Type 0} (old new : DiskLog) (file : ℕ) (failed : DiskCall) (result : Result T E) → KeepsCall (call_on file synced) failed old new result
    → OnOk result (seen (moments_of new) file ≡ seen (moments_of old) file)
sync_seen old new file failed (Ok x) keeps =
    ap (λ (s : FileState). s.bytes) (seen_by old new file synced (files_listed old new (call_on file synced) keeps.first keeps.ok.kept))
sync_seen old new file failed (Err e) keeps = tt
