-- Calls on a file, one after the other.
use Rattle.std.proofs.Common.{◌≡◌, ℕ, ◌+◌, ◌-◌, ◌<◌, ◌≤◌, Bool, IsTrue, List, [], ◌++◌, length, take, drop, max, Result, Ok, Err, refl, sym, ◌∙◌, ap, subst, arith, append_assoc, add-zero, append-nil, length-append, length-take, length-drop}
use borrow.Rule.Slice.PartMut.{put_mid}
use Rattle.std.specs.declared.io.Error.{Error}
use Rattle.std.specs.declared.io.ErrorKind.TheVariants as kinds
use Rattle.std.specs.IoError.{error_kind}
use Rattle.std.proofs.lemmas.List.{take_at, take_all, drop_at, drop-drop, take-append-drop}
use Rattle.std.proofs.Math.ListN.{drop_of_length-le}
use Rattle.std.proofs.Math.Seq.{take-add}
use Rattle.disk_model.specs.FileState.{FileState, put}
use Rattle.disk_model.specs.Moments.{Files, Moments, EachMoment, start}
use Rattle.disk_model.specs.Changes.{Changes, AfterWrite, StaysSettled, Unchanged}
use Rattle.disk_model.specs.Reads.{IsRead}
use Rattle.disk_model.proofs.MomentLemmas.{weaken, join, last_moment}
use Rattle.system_io.specs.Files.{holds, IsPart, ReadsPart, WritesPart, HasRead, HasWritten}

-- ---- reads

unchanged_then : (old mid new : Moments) → EachMoment (Unchanged old.now) old mid → EachMoment (Unchanged mid.now) mid new → EachMoment (Unchanged old.now) old new
unchanged_then old mid new first second = join first (weaken (Unchanged old.now) (λ files same. same ∙ last_moment first) second)

holds_still : (file : ℕ) (old mid : Moments) → EachMoment (Unchanged old.now) old mid → holds mid file ≡ holds old file
holds_still file old mid each = ap (λ (files : Files). (files file).bytes) (last_moment each)

pub HasRead-start : (tells : Bool) (file at : ℕ) (into : List ℕ) (old : Moments) → HasRead tells file at 0 into old old
HasRead-start tells file at into old = record {
  bound = omega arith;
  within = λ told. omega arith;
  same = λ told. refl;
  time = λ told. start refl;
}

-- what a call left behind the front of the buffer
pub behind_front : (count : ℕ) (into rest : List ℕ) → count ≤ length into → put_mid count (length into - count) into rest ≡ take count into ++ rest
behind_front count into rest low =
    let nothing : drop (length into - count) (drop count into) ≡ [] = drop_of_length-le (drop count into) (omega (arith, length-drop count into)) in
    ap (λ (xs : List ℕ). take count into ++ (rest ++ xs)) nothing ∙ ap (λ (xs : List ℕ). take count into ++ xs) (append-nil rest)

-- n bytes behind those
more_read : (tells : Bool) (file at count n : ℕ) (into rest after : List ℕ) (old mid new : Moments) → HasRead tells file at count into old mid
    → n ≤ length rest → (IsTrue tells → n ≤ length (holds mid file) - (at + count)) → (IsTrue tells → take n rest ≡ take n (drop (at + count) (holds mid file)))
    → (IsTrue tells → EachMoment (Unchanged mid.now) mid new)
    → after ≡ take count into ++ rest → HasRead tells file at (count + n) after old new
more_read tells file at count n into rest after old mid new so fits within same time is =
    let front : length (take count into) ≡ count = omega (arith, so.bound, length-take count into) in
    record {
      bound = rw is (omega (arith, length-append (take count into) rest));
      within = λ told.
          let q : n ≤ length (holds old file) - (at + count) = rw (← holds_still file old mid (so.time told)) (within told) in
          let b : count ≤ length (holds old file) - at = so.within told in
          omega arith;
      same = λ told.
          let bytes = holds old file in
          let q : take n rest ≡ take n (drop (at + count) bytes) = same told ∙ ap (λ (xs : List ℕ). take n (drop (at + count) xs)) (holds_still file old mid (so.time told)) in
          let left : take (count + n) after ≡ take count into ++ take n rest =
          take-add count n after ∙ (λ i. take count (is i) ++ take n (drop count (is i)))
          ∙ (λ i. take_at (take count into) rest count front i ++ take n (drop_at (take count into) rest count front i)) in
          left ∙ (λ i. so.same told i ++ q i) ∙ ap (λ (xs : List ℕ). take count (drop at bytes) ++ take n xs) (sym (drop-drop count at bytes)) ∙ sym (take-add count n (drop at bytes));
      time = λ told. unchanged_then old mid new (so.time told) (time told);
    }

module _ (tells : Bool) (file at count from : ℕ) (into rest : List ℕ) (old mid new : Moments) (so : HasRead tells file at count into old mid) where
  abbrev after : List ℕ
  after = put_mid count (length into - count) into rest

  -- a call that gave nothing
  pub HasRead-none : (IsTrue tells → EachMoment (Unchanged mid.now) mid new) → HasRead tells file at count (put_mid count (length into - count) into rest) old new
  HasRead-none time = subst (λ (n : ℕ). HasRead tells file at n after old new) (add-zero count)
      (more_read tells file at count 0 into rest after old mid new so (omega arith) (λ told. omega arith) (λ told. refl) time (behind_front count into rest so.bound))

  module _ (result : Result ℕ Error) (read : ReadsPart tells file from rest mid new result) (from_is : from ≡ at + count) where
    part_of : (n : ℕ) → result ≡ Ok n → IsTrue tells → IsPart (holds mid file) (at + count) n rest
    part_of n is told = subst (λ (p : ℕ). IsPart (holds mid file) p n rest) from_is (rw is at (read.bytes told))

    -- one that gave n bytes
    pub HasRead-more : (n : ℕ) → result ≡ Ok n → HasRead tells file at (count + n) (put_mid count (length into - count) into rest) old new
    HasRead-more n is =
        more_read tells file at count n into rest after old mid new so (rw is at read.bound) (λ told. (part_of n is told).within) (λ told. (part_of n is told).same) read.time (behind_front count into rest so.bound)

    -- one that gave none, where the buffer has room
    pub HasRead-end : (n room : ℕ) → result ≡ Ok n → n ≡ 0 → count < length into → count + length rest ≡ length into → room ≡ length into → IsTrue tells → IsRead (holds old file) at room count (put_mid count (length into - count) into rest)
    HasRead-end n room is none low size room_is told =
        let here = HasRead-none read.time in
        let b : count ≤ length (holds old file) - at = so.within told in
        let e : length (holds old file) ≤ at + count = rw (← holds_still file old mid (so.time told)) ((part_of n is told).ended none (omega arith)) in
        record {
          count = omega arith;
          same = here.same told;
        }

-- ---- writes

-- one piece put behind another
put-put : (s a b : List ℕ) (at next : ℕ) → at ≤ length s → next ≡ at + length a → put (put s at a) next b ≡ put s at (a ++ b)
put-put s a b at next inside is =
    let f = take at s in
    let d = drop (at + length a) s in
    let e = drop (at + length (a ++ b)) s in
    let front : length (f ++ a) ≡ next = omega (arith, length-append f a, length-take at s) in
    let split : put s at a ≡ (f ++ a) ++ d = sym (append_assoc f a d) in
    let taken : take next (put s at a) ≡ f ++ a = ap (λ (l : List ℕ). take next l) split ∙ take_at (f ++ a) d next front in
    let size : at + length a + length b ≡ at + length (a ++ b) = omega (arith, length-append a b) in
    let dropped : drop (next + length b) (put s at a) ≡ e =
    ap (λ (l : List ℕ). drop (next + length b) l) split ∙ sym (drop-drop (length b) next ((f ++ a) ++ d)) ∙ ap (λ (l : List ℕ). drop (length b) l) (drop_at (f ++ a) d next front)
    ∙ drop-drop (length b) (at + length a) s ∙ ap (λ (n : ℕ). drop n s) size in
    (λ i. taken i ++ (b ++ dropped i)) ∙ append_assoc f a (b ++ e) ∙ ap (λ (l : List ℕ). f ++ l) (sym (append_assoc a b e))

pub length-put : (s a : List ℕ) (at : ℕ) → at ≤ length s → length (put s at a) ≡ max (length s) (at + length a)
length-put s a at inside = simp (length-append, length-take, length-drop) (omega arith)

pub put-nothing : (s : List ℕ) (at : ℕ) → s ≡ put s at []
put-nothing s at = sym (take-append-drop at s) ∙ ap (λ (n : ℕ). take at s ++ drop n s) (sym (add-zero at))

AfterWrite_refl : (at n : ℕ) (s : FileState) → AfterWrite at n s s
AfterWrite_refl at n s = record { before = λ p low is. record { settled = is; same = refl }; behind = λ p high is. record { settled = is; same = refl }; no_shorter = omega arith; no_longer = omega arith }

stays_trans : {old mid new : FileState} {p : ℕ} → StaysSettled old mid p → StaysSettled mid new p → StaysSettled old new p
stays_trans a b = record { settled = b.settled; same = b.same ∙ a.same }

-- a write, and then one of what is left of it
AfterWrite-rest : (at count n : ℕ) (old mid new : FileState) → count ≤ n → AfterWrite at n old mid → AfterWrite (at + count) (n - count) mid new → AfterWrite at n old new
AfterWrite-rest at count n old mid new within a b = record {
  before = λ p low is. let first = a.before p low is in stays_trans first (b.before p (omega arith) first.settled);
  behind = λ p high is. let first = a.behind p high is in stays_trans first (b.behind p (omega arith) first.settled);
  no_shorter = omega (arith, a.no_shorter, b.no_shorter);
  no_longer = omega (arith, a.no_longer, b.no_longer);
}

wrote_then : (file at count n m : ℕ) (old mid new : Moments) → count + m ≡ n → EachMoment (Changes file (AfterWrite at n) old.now) old mid
    → EachMoment (Changes file (AfterWrite (at + count) m) mid.now) mid new → EachMoment (Changes file (AfterWrite at n) old.now) old new
wrote_then file at count n m old mid new size first second = join first (weaken (Changes file (AfterWrite at n) old.now) (λ files so. record {
  here =
      let left : m ≡ n - count = omega arith in
      AfterWrite-rest at count n (old.now file) (mid.now file) (files file) (omega arith) (last_moment first).here (subst (λ (k : ℕ). AfterWrite (at + count) k (mid.now file) (files file)) left so.here);
  others = λ other differ. so.others other differ ∙ (last_moment first).others other differ;
}) second)

pub HasWritten-start : (tells : Bool) (file at : ℕ) (bytes : List ℕ) (old : Moments) → HasWritten tells file at 0 bytes old old
HasWritten-start tells file at bytes old = record {
  bound = omega arith;
  written = λ told. put-nothing (holds old file) at;
  time = λ told. start (record { here = AfterWrite_refl at (length bytes) (old.now file); others = λ other differ. refl });
}

-- what the next write is asked for stands inside the file, or at its end
pub HasWritten-inside : (tells : Bool) (file at count : ℕ) (bytes : List ℕ) (old new : Moments) → HasWritten tells file at count bytes old new
    → (IsTrue tells → at ≤ length (holds old file)) → IsTrue tells → at + count ≤ length (holds new file)
HasWritten-inside tells file at count bytes old new so inside told =
    let low : at ≤ length (holds old file) = inside told in
    rw (so.written told) (omega (arith, so.bound, length-put (holds old file) (take count bytes) at low, length-take count bytes))

more_written : (tells : Bool) (file at count n : ℕ) (bytes rest : List ℕ) (old mid new : Moments) → HasWritten tells file at count bytes old mid
    → (IsTrue tells → at ≤ length (holds old file)) → rest ≡ drop count bytes → n ≤ length rest
    → (IsTrue tells → holds new file ≡ put (holds mid file) (at + count) (take n rest))
    → (IsTrue tells → EachMoment (Changes file (AfterWrite (at + count) (length rest)) mid.now) mid new) → HasWritten tells file at (count + n) bytes old new
more_written tells file at count n bytes rest old mid new so inside is fits written time =
    let size : count + length rest ≡ length bytes = rw is (omega (arith, so.bound, length-drop count bytes)) in
    record {
      bound = omega arith;
      written = λ told.
          let low : at ≤ length (holds old file) = inside told in
          written told ∙ ap (λ (xs : List ℕ). put xs (at + count) (take n rest)) (so.written told)
          ∙ put-put (holds old file) (take count bytes) (take n rest) at (at + count) low (omega (arith, so.bound, length-take count bytes))
          ∙ ap (λ (xs : List ℕ). put (holds old file) at (take count bytes ++ take n xs)) is ∙ ap (λ (xs : List ℕ). put (holds old file) at xs) (sym (take-add count n bytes));
      time = λ told. wrote_then file at count (length bytes) (length rest) old mid new size (so.time told) (time told);
    }

module _ (tells : Bool) (file at count from : ℕ) (bytes rest : List ℕ) (old mid new : Moments) (so : HasWritten tells file at count bytes old mid)
    (inside : IsTrue tells → at ≤ length (holds old file)) (result : Result ℕ Error) (wrote : WritesPart tells file from rest mid new result) (from_is : from ≡ at + count) (is_rest : rest ≡ drop count bytes) where
  wrote_time : IsTrue tells → EachMoment (Changes file (AfterWrite (at + count) (length rest)) mid.now) mid new
  wrote_time told = subst (λ (p : ℕ). EachMoment (Changes file (AfterWrite p (length rest)) mid.now) mid new) from_is (wrote.time told)

  -- a call that wrote n bytes
  pub HasWritten-more : (n : ℕ) → result ≡ Ok n → HasWritten tells file at (count + n) bytes old new
  HasWritten-more n is = more_written tells file at count n bytes rest old mid new so inside is_rest (rw is at wrote.bound)
      (λ told. subst (λ (p : ℕ). holds new file ≡ put (holds mid file) p (take n rest)) from_is (rw is at (wrote.written told))) wrote_time

  -- one that a signal interrupted
  pub HasWritten-interrupted : (e : Error) → result ≡ Err e → error_kind e ≡ kinds.Interrupted → HasWritten tells file at count bytes old new
  HasWritten-interrupted e is kind = subst (λ (n : ℕ). HasWritten tells file at n bytes old new) (add-zero count)
      (more_written tells file at count 0 bytes rest old mid new so inside is_rest (omega arith)
      (λ told. (rw is at (wrote.interrupted told)) kind ∙ put-nothing (holds mid file) (at + count)) wrote_time)

  -- of any the time is known
  pub HasWritten-time : IsTrue tells → EachMoment (Changes file (AfterWrite at (length bytes)) old.now) old new
  HasWritten-time told =
      let size : count + length rest ≡ length bytes = rw is_rest (omega (arith, so.bound, length-drop count bytes)) in
      wrote_then file at count (length bytes) (length rest) old mid new size (so.time told) (wrote_time told)

-- what is left of bytes behind the first
pub rest_is : (count : ℕ) (bytes : List ℕ) → take (length bytes - count) (drop count bytes) ≡ drop count bytes
rest_is count bytes = take_all (length bytes - count) (drop count bytes) (omega (arith, length-drop count bytes))
