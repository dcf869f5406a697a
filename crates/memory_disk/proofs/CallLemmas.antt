-- How the moments of a disk in memory go on with one call more.
use Rattle.std.proofs.Common.{◌≡◌, ◌≢◌, ℕ, ◌+◌, ◌<◌, ◌≤◌, List, [], ◌∷◌, ◌++◌, length, take, true, false, ◌==◌, refl, sym, ap, subst, arith}
use Rattle.std.specs.Prelude.{IsTrue, if◌then◌else◌, nat_lt, ◌&&◌, slice_index}
use Rattle.std.proofs.lemmas.Bool.Decides.{nat_tests}
use Rattle.std.proofs.lemmas.List.{places}
use Rattle.disk_model.specs.FileState.{FileState, put}
use Rattle.disk_model.specs.Moments.{Files, Moments, after}
use Rattle.disk_model.specs.Changes.{Changes, AfterWrite, AfterCut, AfterSync}
use Rattle.memory_disk.specs.Sound.{IsSound}
use Rattle.memory_disk.specs.Calls.{Effect, written, write_failed, cut_to, cut_failed, synced, DiskCall, effect_on, settled_outside, step, after_call, moments_from}

pub moments_from-push : (m : Moments) (calls : List DiskCall) (call : DiskCall) → moments_from m (calls ++ call ∷ []) ≡ after (moments_from m calls) (after_call call (moments_from m calls).now)
moments_from-push m [] call = refl
moments_from-push m (c ∷ calls) call = moments_from-push (after m (after_call c m.now)) calls call

same_test : (file : ℕ) → (file == file) ≡ true
same_test file = grind (arith, nat_tests)

other_test : (file other : ℕ) → other ≢ file → (file == other) ≡ false
other_test file other differ = grind (arith, nat_tests)

-- a call changes the file that it names
pub step_here : (file : ℕ) (effect : Effect) (s : FileState) → step file (record { file = file; effect = effect }) s ≡ effect_on effect s
step_here file effect s = ap (λ b. if b then effect_on effect s else s) (same_test file)

-- and no other
pub step_other : (file other : ℕ) (effect : Effect) (s : FileState) → other ≢ file → step other (record { file = file; effect = effect }) s ≡ s
step_other file other effect s differ = ap (λ b. if b then effect_on effect s else s) (other_test file other differ)

pub changes_by : (change : FileState → FileState → Type 0) (file : ℕ) (effect : Effect) (files : Files) → change (files file) (effect_on effect (files file))
    → Changes file change files (after_call (record { file = file; effect = effect }) files)
changes_by change file effect files here = record {
  here = subst (λ s. change (files file) s) (sym (step_here file effect (files file))) here;
  others = λ other differ. step_other file other effect (files other) differ;
}

outside_write : (s : FileState) (at count p : ℕ) → IsTrue (s.settled p) → p < at → IsTrue (settled_outside s at count p)
outside_write s at count p is low = grind (arith, nat_tests)

behind_write : (s : FileState) (at count p : ℕ) → IsTrue (s.settled p) → at + count ≤ p → IsTrue (settled_outside s at count p)
behind_write s at count p is high = grind (arith, nat_tests)

before_put : (old bytes : List ℕ) (at p : ℕ) → p < at → p < length old → slice_index (put old at bytes) p ≡ slice_index old p
before_put old bytes at p low inside = search (arith, places)

behind_put : (old bytes : List ℕ) (at p : ℕ) → at ≤ length old → at + length bytes ≤ p → slice_index (put old at bytes) p ≡ slice_index old p
behind_put old bytes at p inside high = search (arith, places)

-- nothing done is a change of each kind
pub AfterWrite_refl : (at n : ℕ) (s : FileState) → AfterWrite at n s s
AfterWrite_refl at n s = record { before = λ p low is. record { settled = is; same = refl }; behind = λ p high is. record { settled = is; same = refl }; no_shorter = omega arith; no_longer = omega arith }

pub AfterCut_refl : (n : ℕ) (s : FileState) → AfterCut n s s
AfterCut_refl n s = record { before = λ p low is. record { settled = is; same = refl }; no_shorter = omega arith; no_longer = omega arith }

pub AfterSync_refl : (s : FileState) → AfterSync s s
AfterSync_refl s = record { kept = λ p is. record { settled = is; same = refl }; no_shorter = omega arith; no_longer = omega arith }

pub AfterWrite-written : (at : ℕ) (bytes : List ℕ) (s : FileState) → at ≤ length s.bytes → AfterWrite at (length bytes) s (effect_on (written at bytes) s)
AfterWrite-written at bytes s inside = record {
  before = λ p low is. record { settled = outside_write s at (length bytes) p is low; same = before_put s.bytes bytes at p low (omega arith) };
  behind = λ p high is. record { settled = behind_write s at (length bytes) p is high; same = behind_put s.bytes bytes at p inside high };
  no_shorter = omega arith;
  no_longer = omega arith;
}

pub AfterWrite-failed : (at count : ℕ) (s : FileState) → AfterWrite at count s (effect_on (write_failed at count) s)
AfterWrite-failed at count s = record {
  before = λ p low is. record { settled = outside_write s at count p is low; same = refl };
  behind = λ p high is. record { settled = behind_write s at count p is high; same = refl };
  no_shorter = omega arith;
  no_longer = omega arith;
}

before_cut : (s : FileState) (count p : ℕ) → IsTrue (s.settled p) → p < count → IsTrue (s.settled p && nat_lt p count)
before_cut s count p is low = grind (arith, nat_tests)

taken : (bytes : List ℕ) (count p : ℕ) → p < count → slice_index (take count bytes) p ≡ slice_index bytes p
taken bytes count p low = search (arith, places)

pub AfterCut-cut : (count : ℕ) (s : FileState) → AfterCut count s (effect_on (cut_to count) s)
AfterCut-cut count s = record {
  before = λ p low is. record { settled = before_cut s count p is low; same = taken s.bytes count p low };
  no_shorter = omega arith;
  no_longer = omega arith;
}

pub AfterCut-failed : (count : ℕ) (s : FileState) → AfterCut count s (effect_on (cut_failed count) s)
AfterCut-failed count s = record {
  before = λ p low is. record { settled = before_cut s count p is low; same = refl };
  no_shorter = omega arith;
  no_longer = omega arith;
}

-- a sync changes nothing that is settled
pub AfterSync-synced : (last : List ℕ) (s : FileState) → IsSound last s → AfterSync s (effect_on synced s)
AfterSync-synced last s sound = record {
  kept = λ p is. record { settled = low p is; same = refl };
  no_shorter = omega (arith, sound.least);
  no_longer = omega (arith, sound.greatest);
}
  where
    low : (p : ℕ) → IsTrue (s.settled p) → IsTrue (nat_lt p (length s.bytes))
    low p is = let inside : p < s.least = sound.inside p is in let short : s.least ≤ length s.bytes = sound.least in grind (arith, nat_tests)
