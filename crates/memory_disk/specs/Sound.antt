-- What holds of each file of a disk in memory after any calls.
use Rattle.std.proofs.Common.{◌≡◌, ◌⊎◌, inl, inr, ℕ, ◌+◌, ◌<◌, ◌≤◌, List, [], ◌∷◌, length, take, true, false, ◌==◌, refl, sym, ◌∙◌, arith, length-append, length-take, length-drop}
use Rattle.std.specs.Prelude.{IsTrue, ◌&&◌, if◌then◌else◌, nat_lt, slice_index, slice_index_or, max, Option, None, Some}
use Rattle.std.proofs.lemmas.Bool.Decides.{nat_tests}
use Rattle.std.proofs.lemmas.List.{places}
use Rattle.disk_model.specs.FileState.{FileState, IsFileImage, IsSettled, synced_file, put}
use Rattle.disk_model.specs.Moments.{Moments, after}
use Rattle.disk_model.specs.Reads.{seen}
use Rattle.memory_disk.specs.Calls.{Effect, looked, written, write_failed, cut_to, cut_failed, synced, DiskCall, effect_on, settled_outside, left_by, step, after_call, moments_from, last_sync}
use Rattle.memory_disk.specs.Touched.{Touched, touched_at, leaves, touch}
use Rattle.memory_disk.specs.MemoryLog.{DiskLog, first_files, moments_after, moments_touched, moments_of}

-- What holds of a file after any calls: what is settled lies below the least length, and the length of what
-- reads give between the least and the greatest; what the last sync left is an image too.
pub record IsSound (last : List ℕ) (s : FileState) : Type 0 where
  pub inside : (p : ℕ) → IsTrue (s.settled p) → p < s.least
  pub least : s.least ≤ length s.bytes
  pub greatest : length s.bytes ≤ s.greatest
  pub last_least : s.least ≤ length last
  pub last_greatest : length last ≤ s.greatest
  pub last_kept : (p : ℕ) → IsTrue (s.settled p) → slice_index last p ≡ slice_index s.bytes p

below : (n p : ℕ) → IsTrue (nat_lt p n) → p < n
below n p is = grind (arith, nat_tests)

pub IsSettled-synced : (bytes : List ℕ) → IsSettled (synced_file bytes)
IsSettled-synced bytes = record { each = λ p low. grind (arith, nat_tests); no_shorter = omega arith; no_longer = omega arith }

pub sound_synced : (bytes : List ℕ) → IsSound bytes (synced_file bytes)
sound_synced bytes = record {
  inside = λ p is. below (length bytes) p is;
  least = omega arith;
  greatest = omega arith;
  last_least = omega arith;
  last_greatest = omega arith;
  last_kept = λ p is. refl;
}

before_put : (old bytes : List ℕ) (at p : ℕ) → p < at → p < length old → slice_index (put old at bytes) p ≡ slice_index old p
before_put old bytes at p low inside = search (arith, places)

behind_put : (old bytes : List ℕ) (at p : ℕ) → at ≤ length old → at + length bytes ≤ p → slice_index (put old at bytes) p ≡ slice_index old p
behind_put old bytes at p inside high = search (arith, places)

length-put : (old bytes : List ℕ) (at : ℕ) → (length old ≤ length (put old at bytes)) × (length (put old at bytes) ≤ max (length old) (at + length bytes))
length-put old bytes at = simp (length-append, length-take, length-drop) (omega arith, omega arith)

-- what is settled still was settled, and lies outside
outside_tells : (s : FileState) (at count p : ℕ) → IsTrue (settled_outside s at count p) → IsTrue (s.settled p) × ((p < at) ⊎ (at + count ≤ p))
outside_tells s at count p is = (grind (arith, nat_tests), grind (arith, nat_tests))

cut_tells : (s : FileState) (count p : ℕ) → IsTrue (s.settled p && nat_lt p count) → IsTrue (s.settled p) × (p < count)
cut_tells s count p is = (grind (arith, nat_tests), grind (arith, nat_tests))

taken : (bytes : List ℕ) (count p : ℕ) → p < count → slice_index (take count bytes) p ≡ slice_index bytes p
taken bytes count p low = search (arith, places)

put_keeps : (last : List ℕ) (s : FileState) (at : ℕ) (bytes : List ℕ) (p : ℕ) → IsSound last s → IsTrue (settled_outside s at (length bytes) p)
    → slice_index (put s.bytes at bytes) p ≡ slice_index s.bytes p
put_keeps last s at bytes p sound is =
    let was = outside_tells s at (length bytes) p is in
    let low = sound.inside p was.0 in
    let within : p < length s.bytes = omega (arith, low, sound.least) in
    elim was.1 [
      | inl front ↦ before_put s.bytes bytes at p front within
      | inr back ↦ behind_put s.bytes bytes at p (omega (arith, within, back)) back
    ]

-- an effect keeps it
pub sound_effect : (effect : Effect) (last : List ℕ) (s : FileState) → IsSound last s → IsSound (left_by effect s last) (effect_on effect s)
sound_effect looked last s sound = sound
sound_effect (written at bytes) last s sound =
    let size = length-put s.bytes bytes at in
    record {
      inside = λ p is. sound.inside p (outside_tells s at (length bytes) p is).0;
      least = omega (arith, size.0, sound.least);
      greatest = omega (arith, size.1, sound.greatest);
      last_least = sound.last_least;
      last_greatest = omega (arith, sound.last_greatest);
      last_kept = λ p is. sound.last_kept p (outside_tells s at (length bytes) p is).0 ∙ sym (put_keeps last s at bytes p sound is);
    }
sound_effect (write_failed at count) last s sound = record {
  inside = λ p is. sound.inside p (outside_tells s at count p is).0;
  least = sound.least;
  greatest = omega (arith, sound.greatest);
  last_least = sound.last_least;
  last_greatest = omega (arith, sound.last_greatest);
  last_kept = λ p is. sound.last_kept p (outside_tells s at count p is).0;
}
sound_effect (cut_to count) last s sound = record {
  inside = λ p is. let was = cut_tells s count p is in omega (arith, sound.inside p was.0, was.1);
  least = omega (arith, sound.least, length-take count s.bytes);
  greatest = omega (arith, sound.greatest, length-take count s.bytes);
  last_least = omega (arith, sound.last_least);
  last_greatest = sound.last_greatest;
  last_kept = λ p is. let was = cut_tells s count p is in sound.last_kept p was.0 ∙ sym (taken s.bytes count p was.1);
}
sound_effect (cut_failed count) last s sound = record {
  inside = λ p is. let was = cut_tells s count p is in omega (arith, sound.inside p was.0, was.1);
  least = omega (arith, sound.least);
  greatest = sound.greatest;
  last_least = omega (arith, sound.last_least);
  last_greatest = sound.last_greatest;
  last_kept = λ p is. sound.last_kept p (cut_tells s count p is).0;
}
sound_effect synced last s sound = sound_synced s.bytes

sound_step : (file : ℕ) (call : DiskCall) (last : List ℕ) (s : FileState) → IsSound last s
    → IsSound (if call.file == file then left_by call.effect s last else last) (step file call s)
sound_step file call last s sound =
    elim (call.file == file) as (λ b. IsSound (if b then left_by call.effect s last else last) (if b then effect_on call.effect s else s)) [
      | true ↦ sound_effect call.effect last s sound
      | false ↦ sound
    ]

pub sound_from : (file : ℕ) (last : List ℕ) (m : Moments) (calls : List DiskCall) → IsSound last (m.now file)
    → IsSound (last_sync file last (m.now file) calls) ((moments_from m calls).now file)
sound_from file last m [] sound = sound
sound_from file last m (call ∷ calls) sound =
    sound_from file (if call.file == file then left_by call.effect (m.now file) last else last) (after m (after_call call m.now)) calls (sound_step file call last (m.now file) sound)

touch_tells : (touched : Touched) (s : FileState) (p : ℕ) → IsTrue (s.settled p && leaves touched p) → IsTrue (s.settled p) × (p < touched.least)
touch_tells touched s p is = (grind (arith, nat_tests), grind (arith, nat_tests))

-- what is kept together keeps it
pub sound_touch : (touched : Touched) (last : List ℕ) (s : FileState) → IsSound last s → IsSound last (touch touched s)
sound_touch touched last s sound = record {
  inside = λ p is. let was = touch_tells touched s p is in omega (arith, sound.inside p was.0, was.1);
  least = omega (arith, sound.least);
  greatest = omega (arith, sound.greatest);
  last_least = omega (arith, sound.last_least);
  last_greatest = omega (arith, sound.last_greatest);
  last_kept = λ p is. sound.last_kept p (touch_tells touched s p is).0;
}

sound_together : (together : Option (List Touched)) (last : List ℕ) (m : Moments) (file : ℕ) → IsSound last (m.now file)
    → IsSound last ((moments_touched together m).now file)
sound_together None last m file sound = sound
sound_together (Some touched) last m file sound =
    elim (nat_lt file 3) as (λ b. IsSound last (if b then touch (touched_at touched file) (m.now file) else m.now file)) [
      | true ↦ sound_touch (touched_at touched file) last (m.now file) sound
      | false ↦ sound
    ]

-- what the last sync of a file left, after all calls
abbrev pub last_of : DiskLog → ℕ → List ℕ
last_of log file = let first = slice_index_or log.first file [] in last_sync file first (synced_file first) log.calls

pub sound_of : (log : DiskLog) (file : ℕ) → IsSound (last_of log file) ((moments_of log).now file)
sound_of log file =
    let first = slice_index_or log.first file [] in
    sound_together log.together (last_of log file) (moments_after log.first log.calls) file
    (sound_from file first (record { now = first_files log.first; past = [] }) log.calls (sound_synced first))

-- what reads give is an image
pub shows_seen : (log : DiskLog) (file : ℕ) → IsFileImage ((moments_of log).now file) (seen (moments_of log) file)
shows_seen log file =
    let sound = sound_of log file in
    record {
      no_shorter = sound.least;
      no_longer = sound.greatest;
      inside = λ p is. let low = sound.inside p is in omega (arith, low, sound.least);
      kept = λ p is. refl;
    }
