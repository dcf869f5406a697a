-- The bytes that a disk in memory stores are those that its calls lead to, and nothing is kept beside them while
-- the list has room.
use Rattle.std.proofs.Common.{◌≡◌, ◌≢◌, ◌⊎◌, inl, inr, ℕ, zero, suc, ◌<◌, ◌^◌, List, [], ◌∷◌, ◌++◌, length, map, Vec, Bool, true, false, refl, sym, ◌∙◌, ap, subst, arith}
use Rattle.std.specs.Prelude.{IsTrue, ◌&&◌, if◌then◌else◌, nat_lt, slice_index_or, slice_set, Option, None, Some, IsSome}
use Rattle.std.specs.declared.alloc.Global.{Global}
use Rattle.std.proofs.lemmas.Bool.{cases_eq}
use Rattle.std.proofs.lemmas.List.{map-append, map-set, length-map, get_or-set_same, get_or-set_other}
use Rattle.fault_counts.specs.Counts.{Counts}
use Rattle.disk_model.specs.FileState.{FileState, synced_file}
use Rattle.disk_model.specs.Moments.{Files, Moments}
use Rattle.disk_model.specs.Reads.{seen}
use Rattle.memory_disk.specs.Calls.{Effect, looked, written, cut_to, synced, DiskCall, call_on, effect_on, step, after_call}
use Rattle.memory_disk.specs.Touched.{Touched, touched_at, touch, LeavesAll}
use Rattle.memory_disk.specs.MemoryLog.{DiskLog, first_files, moments_after, moments_touched, KeptInList, KeptTogether}
use Rattle.memory_disk.specs.Kept.{failed_effect, call_of, calls_of, touched_of, touched_in}
use Rattle.memory_disk.specs.Stored.{IsStored, KeepsFailed}
use Rattle.memory_disk.specs.declared.kept.KeptCall.{KeptCall}
use Rattle.memory_disk.specs.declared.kept.KeptEffect.TheVariants.{Failed}
use Rattle.memory_disk.specs.declared.kept.FailedEffect.{FailedEffect}
use Rattle.memory_disk.specs.declared.kept.FailedEffect.TheVariants.{FailedLook, FailedWrite, FailedCut}
use Rattle.memory_disk.specs.declared.touched.TouchedFile.{TouchedFile}
use Rattle.memory_disk.proofs.CallLemmas.{moments_from-push, step_here, step_other}
use Rattle.memory_disk.proofs.TouchedLemmas.{touch_nothing, is_low, not_named}

-- what the stored lists of bytes hold
abbrev pub bytes_of : List (Vec ℕ Global) → List (List ℕ)
bytes_of files = map (λ v. v.items) files

pub get_or-items : (files : List (Vec ℕ Global)) (k : ℕ) (d : Vec ℕ Global) → k < length files → slice_index_or (bytes_of files) k [] ≡ (slice_index_or files k d).items
get_or-items [] k d low = absurd (omega arith)
get_or-items (v ∷ files) zero d low = refl
get_or-items (v ∷ files) (suc k) d low = get_or-items files k d (omega arith)

-- no list of bytes in memory is longer
pub short_bytes : (files : List (Vec ℕ Global)) (k : ℕ) → length (slice_index_or (bytes_of files) k []) < 2 ^ 63
short_bytes [] k = omega arith
short_bytes (v ∷ files) zero = omega (arith, v.ok, v.small)
short_bytes (v ∷ files) (suc k) = short_bytes files k

pub touched_at-of : (files : List TouchedFile) (k : ℕ) (d : TouchedFile) → k < length files → touched_at (touched_in files) k ≡ touched_of (slice_index_or files k d)
touched_at-of [] k d low = absurd (omega arith)
touched_at-of (v ∷ files) zero d low = refl
touched_at-of (v ∷ files) (suc k) d low = touched_at-of files k d (omega arith)

-- What leaves nothing settled that was not, and lets the length move no less far.
abbrev pub Narrows : Effect → Type 0
Narrows effect = (touched : Touched) (s : FileState) → LeavesAll touched s → LeavesAll touched (effect_on effect s)

both : (a b : Bool) → IsTrue (a && b) → IsTrue a
both true b is = refl
both false b is = is

pub narrows_look : Narrows looked
narrows_look touched s all = all

pub narrows_write : (at : ℕ) (bytes : List ℕ) → Narrows (written at bytes)
narrows_write at bytes touched s all = record {
  settled = λ p is. all.settled p (both (s.settled p) _ is);
  least = all.least;
  greatest = omega (arith, all.greatest);
}

pub narrows_cut : (count : ℕ) → Narrows (cut_to count)
narrows_cut count touched s all = record {
  settled = λ p is. all.settled p (both (s.settled p) _ is);
  least = omega (arith, all.least);
  greatest = all.greatest;
}

narrows_failed : (failed : FailedEffect) → Narrows (failed_effect failed)
narrows_failed FailedLook touched s all = all
narrows_failed (FailedWrite at count) touched s all = record {
  settled = λ p is. all.settled p (both (s.settled p) _ is);
  least = all.least;
  greatest = omega (arith, all.greatest);
}
narrows_failed (FailedCut count) touched s all = record {
  settled = λ p is. all.settled p (both (s.settled p) _ is);
  least = omega (arith, all.least);
  greatest = all.greatest;
}

keeps_bytes : (failed : FailedEffect) (s : FileState) → (effect_on (failed_effect failed) s).bytes ≡ s.bytes
keeps_bytes FailedLook s = refl
keeps_bytes (FailedWrite at count) s = refl
keeps_bytes (FailedCut count) s = refl

-- what is stored beside the list of calls: the bytes of the files, whether the list had no room for a call, and
-- what is kept beside it
pub record Store : Type 0 where
  pub bytes : List (List ℕ)
  pub is_full : Bool
  pub touched : List Touched

-- The bytes are those of these files. While the list has room, nothing is kept beside it.
pub record StoresFiles (store : Store) (files : Files) : Type 0 where
  pub same : (k : ℕ) → k < 3 → slice_index_or store.bytes k [] ≡ (files k).bytes
  pub nothing_beside : store.is_full ≡ false → (k : ℕ) → k < 3 → LeavesAll (touched_at store.touched k) (files k)

pub stores : (store : Store) (first : List (List ℕ)) (calls : List DiskCall) → IsStored store.bytes first calls store.is_full store.touched → StoresFiles store (moments_after first calls).now
stores store first calls is = record { same = is.bytes; nothing_beside = is.nothing_beside }

-- the files after one call more
added : (first : List (List ℕ)) (calls later : List KeptCall) (call : KeptCall) → later ≡ calls ++ call ∷ []
    → (moments_after first (calls_of later)).now ≡ after_call (call_of call) (moments_after first (calls_of calls)).now
added first calls later call pushed =
    ap (λ (l : List KeptCall). (moments_after first (calls_of l)).now) pushed
    ∙ ap (λ (l : List DiskCall). (moments_after first l).now) (map-append call_of calls (call ∷ []))
    ∙ ap (λ (m : Moments). m.now) (moments_from-push (record { now = first_files first; past = [] }) (calls_of calls) (call_of call))

pub stored_after : (store : Store) (first : List (List ℕ)) (calls later : List KeptCall) (call : KeptCall) → later ≡ calls ++ call ∷ []
    → StoresFiles store (after_call (call_of call) (moments_after first (calls_of calls)).now) → IsStored store.bytes first (calls_of later) store.is_full store.touched
stored_after store first calls later call pushed so =
    let is : StoresFiles store (moments_after first (calls_of later)).now = subst (λ (files : Files). StoresFiles store files) (sym (added first calls later call pushed)) so in
    record { bytes = is.same; nothing_beside = is.nothing_beside }

-- a fact of each file goes on where it does for the file that the call names
goes_on : (call : DiskCall) (old : Files) (P : ℕ → FileState → Type 0) → P call.file (effect_on call.effect (old call.file)) → (k : ℕ) → P k (old k) → P k (after_call call old k)
goes_on call old P here k so = elim (cases_eq k call.file) [
  | inl same ↦ subst (λ (n : ℕ). P n (after_call call old n)) (sym same) (subst (P call.file) (sym (step_here call.file call.effect (old call.file))) here)
  | inr differ ↦ subst (P k) (sym (step_other call.file k call.effect (old k) differ)) so
]

-- a call to a file in use, after which nothing is settled that was not
pub record NarrowsFile (call : DiskCall) : Type 0 where
  pub named : call.file < 3
  pub narrows : Narrows call.effect

narrowed : (store : Store) (old : Files) (call : DiskCall) → NarrowsFile call → StoresFiles store old → store.is_full ≡ false → (k : ℕ) → k < 3
    → LeavesAll (touched_at store.touched k) (after_call call old k)
narrowed store old call narrow stored open_now k low =
    goes_on call old (λ n s. LeavesAll (touched_at store.touched n) s) (narrow.narrows (touched_at store.touched call.file) (old call.file) (stored.nothing_beside open_now call.file narrow.named)) k
    (stored.nothing_beside open_now k low)

-- a call after which reads give the same
pub stored_same : (store : Store) (old : Files) (call : DiskCall) → NarrowsFile call → ((s : FileState) → (effect_on call.effect s).bytes ≡ s.bytes) → StoresFiles store old
    → StoresFiles store (after_call call old)
stored_same store old call narrow same stored = record {
  same = λ k low. goes_on call old (λ n s. slice_index_or store.bytes n [] ≡ s.bytes) (stored.same call.file narrow.named ∙ sym (same (old call.file))) k (stored.same k low);
  nothing_beside = narrowed store old call narrow stored;
}

-- a call that changes what reads give of the file that it names
pub stored_changed : (store : Store) (old : Files) (call : DiskCall) (bytes : List ℕ) → NarrowsFile call → call.file < length store.bytes → bytes ≡ (effect_on call.effect (old call.file)).bytes
    → StoresFiles store old → StoresFiles (record store { bytes = slice_set store.bytes call.file bytes }) (after_call call old)
stored_changed store old call bytes narrow inside is stored = record {
  same = λ k low. elim (cases_eq k call.file) [
    | inl same ↦ subst (λ (n : ℕ). slice_index_or (slice_set store.bytes call.file bytes) n [] ≡ (after_call call old n).bytes) (sym same)
        (get_or-set_same store.bytes call.file bytes [] inside ∙ is ∙ sym (ap (λ (s : FileState). s.bytes) (step_here call.file call.effect (old call.file))))
    | inr differ ↦
        get_or-set_other store.bytes call.file k bytes [] differ ∙ stored.same k low ∙ sym (ap (λ (s : FileState). s.bytes) (step_other call.file k call.effect (old k) differ))
  ];
  nothing_beside = narrowed store old call narrow stored;
}

pub bytes_of-set : (files : List (Vec ℕ Global)) (file : ℕ) (v : Vec ℕ Global) → bytes_of (slice_set files file v) ≡ slice_set (bytes_of files) file v.items
bytes_of-set files file v = map-set (λ (v : Vec ℕ Global). v.items) files file v

pub touched_in-set : (files : List TouchedFile) (file : ℕ) (v : TouchedFile) → touched_in (slice_set files file v) ≡ slice_set (touched_in files) file (touched_of v)
touched_in-set files file v = map-set touched_of files file v

-- what is kept together changes nothing that reads give
pub seen_touched : (together : Option (List Touched)) (m : Moments) (k : ℕ) → seen (moments_touched together m) k ≡ seen m k
seen_touched None m k = refl
seen_touched (Some touched) m k =
    elim (nat_lt k 3) as (λ b. (if b then touch (touched_at touched k) (m.now k) else m.now k).bytes ≡ (m.now k).bytes) [ true ↦ refl | false ↦ refl ]

-- what is stored of a file
pub stored_at : (files : List (Vec ℕ Global)) (file : ℕ) (d : Vec ℕ Global) (bytes : List ℕ) → file < length files → slice_index_or (bytes_of files) file [] ≡ bytes
    → (slice_index_or files file d).items ≡ bytes
stored_at files file d bytes inside held = sym (get_or-items files file d inside) ∙ held

-- after a sync nothing is kept beside
pub stored_synced : (store : Store) (old : Files) (file : ℕ) (t : Touched) → file < 3 → file < length store.touched → LeavesAll t (synced_file (old file).bytes) → StoresFiles store old
    → StoresFiles (record store { touched = slice_set store.touched file t }) (after_call (call_on file synced) old)
stored_synced store old file t named inside all stored =
    let here : touched_at (slice_set store.touched file t) file ≡ t = get_or-set_same store.touched file t _ inside in
    let other : (k : ℕ) → k ≢ file → touched_at (slice_set store.touched file t) k ≡ touched_at store.touched k = λ k differ. get_or-set_other store.touched file k t _ differ in
    let later = after_call (call_on file synced) old in
    record {
      same = λ k low. goes_on (call_on file synced) old (λ n s. slice_index_or store.bytes n [] ≡ s.bytes) (stored.same file named) k (stored.same k low);
      nothing_beside = λ open_now k low. elim (cases_eq k file) [
        | inl same ↦ subst (λ (n : ℕ). LeavesAll (touched_at (slice_set store.touched file t) n) (later n)) (sym same)
            (subst (λ u. LeavesAll u (later file)) (sym here) (subst (LeavesAll t) (sym (step_here file synced (old file))) all))
        | inr differ ↦ subst (λ u. LeavesAll u (later k)) (sym (other k differ))
            (subst (LeavesAll (touched_at store.touched k)) (sym (step_other file k synced (old k) differ)) (stored.nothing_beside open_now k low))
      ];
    }

-- one more failed call beside the list
pub added_beside : (files : List TouchedFile) (call : DiskCall) (v d : TouchedFile) → call.file < length files
    → ((s : FileState) → touch (touched_of v) s ≡ effect_on call.effect (touch (touched_of (slice_index_or files call.file d)) s))
    → (k : ℕ) (s : FileState) → touch (touched_at (touched_in (slice_set files call.file v)) k) s ≡ step k call (touch (touched_at (touched_in files) k) s)
added_beside files call v d inside so k s = elim (cases_eq k call.file) [
  | inl same ↦ subst (λ (n : ℕ). touch (touched_at (touched_in (slice_set files call.file v)) n) s ≡ step n call (touch (touched_at (touched_in files) n) s)) (sym same)
      (ap (λ t. touch t s) same_place ∙ so s ∙ ap (λ t. effect_on call.effect (touch t s)) (sym (touched_at-of files call.file d inside))
      ∙ sym (step_here call.file call.effect (touch (touched_at (touched_in files) call.file) s)))
  | inr differ ↦ ap (λ t. touch t s) (ap (λ (l : List Touched). touched_at l k) (touched_in-set files call.file v) ∙ get_or-set_other (touched_in files) call.file k (touched_of v) _ differ)
      ∙ sym (step_other call.file k call.effect (touch (touched_at (touched_in files) k) s) differ)
]
  where
    same_place : touched_at (touched_in (slice_set files call.file v)) call.file ≡ touched_of v
    same_place =
        ap (λ (l : List Touched). touched_at l call.file) (touched_in-set files call.file v)
        ∙ get_or-set_same (touched_in files) call.file (touched_of v) _ (omega (arith, length-map files touched_of))

either_way : (b : Bool) (in_use other is : FileState) → (b ≡ true → in_use ≡ is) → (b ≡ false → other ≡ is) → (if b then in_use else other) ≡ is
either_way true in_use other is low high = low refl
either_way false in_use other is low high = high refl

-- what is kept beside the list now counts as that call after what was kept there
abbrev pub Adds : DiskCall → List Touched → List Touched → Type 0
Adds call old new = (k : ℕ) (s : FileState) → touch (touched_at new k) s ≡ step k call (touch (touched_at old k) s)

-- the files after it
module _ (old new : List Touched) (call : DiskCall) (named : call.file < 3) (so : Adds call old new) where
  -- where some were kept beside the list before
  full_at : (k : ℕ) (s : FileState) → (if nat_lt k 3 then touch (touched_at new k) s else s) ≡ step k call (if nat_lt k 3 then touch (touched_at old k) s else s)
  full_at k s =
      let was = λ (b : Bool). step k call (if b then touch (touched_at old k) s else s) in
      either_way (nat_lt k 3) (touch (touched_at new k) s) s (was (nat_lt k 3)) (λ low. so k s ∙ ap was (sym low))
      (λ high. sym (step_other call.file k call.effect s (not_named k call.file high named)) ∙ ap was (sym high))

  -- and where none were
  open_at : (k : ℕ) (s : FileState) → (k < 3 → LeavesAll (touched_at old k) s) → (if nat_lt k 3 then touch (touched_at new k) s else s) ≡ step k call s
  open_at k s nothing =
      either_way (nat_lt k 3) (touch (touched_at new k) s) s (step k call s) (λ low. so k s ∙ ap (step k call) (touch_nothing (touched_at old k) s (nothing (is_low k low))))
      (λ high. sym (step_other call.file k call.effect s (not_named k call.file high named)))

  pub together_files : (m : Moments) (was_full : Bool) → (was_full ≡ false → (k : ℕ) → k < 3 → LeavesAll (touched_at old k) (m.now k))
      → (moments_touched (Some new) m).now ≡ after_call call (moments_touched (if was_full then Some old else None) m).now
  together_files m true nothing = λ i k. full_at k (m.now k) i
  together_files m false nothing = λ i k. open_at k (m.now k) (nothing refl k) i

-- the calls that are kept in a list, whether it had no room for one, and what those since touched
pub record Keeping : Type 0 where
  pub calls : List KeptCall
  pub is_full : Bool
  pub touched : List TouchedFile

-- A call to a file in use failed where this was stored, and was kept.
pub record FailsAt (bytes first : List (List ℕ)) (was is_now : Keeping) (file : ℕ) (failed : FailedEffect) : Type 0 where
  pub named : file < 3
  pub stored : IsStored bytes first (calls_of was.calls) was.is_full (touched_in was.touched)
  pub keeps : KeepsFailed file failed was.calls is_now.calls was.is_full is_now.is_full was.touched is_now.touched

no_both : true ≡ false → ⊥
no_both same = cc

-- a failed call keeps it
pub stored_failed : (bytes first : List (List ℕ)) (was is_now : Keeping) (file : ℕ) (failed : FailedEffect) → FailsAt bytes first was is_now file failed
    → IsStored bytes first (calls_of is_now.calls) is_now.is_full (touched_in is_now.touched)
stored_failed bytes first was is_now file failed fails = elim fails.keeps [
  | inl put_in ↦
      let store : Store = record { bytes = bytes; is_full = is_now.is_full; touched = touched_in was.touched } in
      let stored : IsStored bytes first (calls_of was.calls) is_now.is_full (touched_in was.touched) =
      subst (λ b. IsStored bytes first (calls_of was.calls) b (touched_in was.touched)) (put_in.had_room ∙ sym put_in.has_room) fails.stored in
      subst (λ (l : List TouchedFile). IsStored bytes first (calls_of is_now.calls) is_now.is_full (touched_in l)) (sym put_in.same)
      (stored_after store first was.calls is_now.calls (record { file = file; effect = Failed failed }) put_in.calls
      (stored_same store (moments_after first (calls_of was.calls)).now (call_on file (failed_effect failed)) (record { named = fails.named; narrows = narrows_failed failed }) (keeps_bytes failed)
      (stores store first (calls_of was.calls) stored)))
  | inr beside ↦ record {
    bytes = λ k low. fails.stored.bytes k low ∙ sym (ap (λ (l : List KeptCall). seen (moments_after first (calls_of l)) k) beside.calls);
    nothing_beside = λ open_now. absurd (no_both (sym beside.has_no_room ∙ open_now));
  }
]

-- the disk that keeps them
abbrev pub log_of : List (List ℕ) → Keeping → Counts → ℕ → DiskLog
log_of first keeping counts changes = record { first = first; calls = calls_of keeping.calls; together = (if keeping.is_full then Some (touched_in keeping.touched) else None); counts = counts; changes = changes }

-- and is kept as what it named
pub kept_failed : (bytes first : List (List ℕ)) (was is_now : Keeping) (file : ℕ) (failed : FailedEffect) → FailsAt bytes first was is_now file failed → (counts : Counts) (changes : ℕ)
    → KeptInList (call_on file (failed_effect failed)) (log_of first was counts changes) (log_of first is_now counts changes)
    ⊎ KeptTogether (call_on file (failed_effect failed)) (log_of first was counts changes) (log_of first is_now counts changes)
kept_failed bytes first was is_now file failed fails counts changes = elim fails.keeps [
  | inl put_in ↦ inl (record {
    calls = ap calls_of put_in.calls ∙ map-append call_of was.calls (record { file = file; effect = Failed failed } ∷ []);
    had_room = ap (λ b. if b then Some (touched_in was.touched) else None) put_in.had_room;
    has_room = ap (λ b. if b then Some (touched_in is_now.touched) else None) put_in.has_room;
  })
  | inr beside ↦ inr (record {
    calls = ap calls_of beside.calls;
    is_full = subst (λ b. IsSome (if b then Some (touched_in is_now.touched) else None)) (sym beside.has_no_room) refl;
    files =
        subst (λ b. (moments_touched (if b then Some (touched_in is_now.touched) else None) (moments_after first (calls_of is_now.calls))).now ≡ after_it) (sym beside.has_no_room)
        (subst (λ (l : List KeptCall). (moments_touched (Some (touched_in is_now.touched)) (moments_after first (calls_of l))).now ≡ after_it) (sym beside.calls)
        (together_files (touched_in was.touched) (touched_in is_now.touched) (call_on file (failed_effect failed)) fails.named beside.files (moments_after first (calls_of was.calls)) was.is_full fails.stored.nothing_beside));
  })
]
  where
    after_it : Files
    after_it = after_call (call_on file (failed_effect failed)) (moments_touched (if was.is_full then Some (touched_in was.touched) else None) (moments_after first (calls_of was.calls))).now
