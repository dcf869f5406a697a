-- What is kept together goes on with one failed call more.
use Rattle.std.proofs.Common.{◌≡◌, ◌≢◌, ℕ, ◌+◌, ◌<◌, List, Bool, true, false, refl, ◌∙◌, ap, arith}
use Rattle.std.specs.Prelude.{IsTrue, ◌&&◌, ◌||◌, nat_lt, nat_le, min, max, slice_index_or}
use Rattle.std.proofs.lemmas.Bool.Decides.{nat_tests}
use Rattle.disk_model.specs.FileState.{FileState}
use Rattle.memory_disk.specs.Calls.{write_failed, cut_failed, effect_on}
use Rattle.memory_disk.specs.Touched.{Touched, leaves, touch, LeavesAll}

pub low_test : (file : ℕ) → file < 3 → nat_lt file 3 ≡ true
low_test file low = grind (arith, nat_tests)

pub is_low : (file : ℕ) → nat_lt file 3 ≡ true → file < 3
is_low file test = grind (arith, nat_tests)

pub not_named : (other file : ℕ) → nat_lt other 3 ≡ false → file < 3 → other ≢ file
not_named other file high named = grind (arith, nat_tests)

swap_and : (a b c d : Bool) → (a && ((b && c) && d)) ≡ ((a && (b && d)) && c)
swap_and true true true true = refl
swap_and true true true false = refl
swap_and true true false true = refl
swap_and true true false false = refl
swap_and true false true true = refl
swap_and true false true false = refl
swap_and true false false true = refl
swap_and true false false false = refl
swap_and false b c d = refl

cut_and : (a b : Bool) (p m n : ℕ) → (a && (b && nat_lt p (min m n))) ≡ ((a && (b && nat_lt p m)) && nat_lt p n)
cut_and true true p m n = grind (arith, nat_tests)
cut_and true false p m n = refl
cut_and false b p m n = refl

pub touch_write : (outside marks : List Bool) (least greatest at count : ℕ) (s : FileState)
    → ((p : ℕ) → slice_index_or marks p false ≡ (slice_index_or outside p false && (nat_lt p at || nat_le (at + count) p)))
    → touch (record { outside = marks; least = least; greatest = max greatest (at + count) }) s
    ≡ effect_on (write_failed at count) (touch (record { outside = outside; least = least; greatest = greatest }) s)
touch_write outside marks least greatest at count s marked i = record {
  bytes = s.bytes;
  settled = λ p. (ap (λ b. s.settled p && (b && nat_lt p least)) (marked p)
      ∙ swap_and (s.settled p) (slice_index_or outside p false) (nat_lt p at || nat_le (at + count) p) (nat_lt p least)) i;
  least = min s.least least;
  greatest = farther i;
}
  where
    farther : max s.greatest (max greatest (at + count)) ≡ max (max s.greatest greatest) (at + count)
    farther = omega arith

pub touch_cut : (outside : List Bool) (least greatest count : ℕ) (s : FileState)
    → touch (record { outside = outside; least = min least count; greatest = greatest }) s
    ≡ effect_on (cut_failed count) (touch (record { outside = outside; least = least; greatest = greatest }) s)
touch_cut outside least greatest count s i = record {
  bytes = s.bytes;
  settled = λ p. cut_and (s.settled p) (slice_index_or outside p false) p least count i;
  least = shorter i;
  greatest = max s.greatest greatest;
}
  where
    shorter : min s.least (min least count) ≡ min (min s.least least) count
    shorter = omega arith

settled_is : (a b : Bool) → (IsTrue a → IsTrue b) → (a && b) ≡ a
settled_is true b so = so refl
settled_is false b so = refl

-- where nothing was touched the file is as it was
pub touch_nothing : (touched : Touched) (s : FileState) → LeavesAll touched s → touch touched s ≡ s
touch_nothing touched s all i = record {
  bytes = s.bytes;
  settled = λ p. settled_is (s.settled p) (leaves touched p) (all.settled p) i;
  least = shortest i;
  greatest = farthest i;
}
  where
    shortest : min s.least touched.least ≡ s.least
    shortest = omega (arith, all.least)

    farthest : max s.greatest touched.greatest ≡ s.greatest
    farthest = omega (arith, all.greatest)
