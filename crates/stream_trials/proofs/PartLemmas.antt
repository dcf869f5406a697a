-- A call on a part of the bytes that it is asked for.
use Rattle.std.proofs.Common.{ℕ, ◌≤◌, min, Bool, List, length, take, Result, Ok, Err, ap, ◌∙◌, arith, length-take}
use Rattle.std.proofs.lemmas.List.{take-take}
use Rattle.std.specs.declared.io.Error.{Error}
use Rattle.disk_model.specs.FileState.{FileState, put}
use Rattle.disk_model.specs.Moments.{Files, Moments, EachMoment}
use Rattle.disk_model.specs.Changes.{Changes, AfterWrite}
use Rattle.disk_model.proofs.MomentLemmas.{weaken}
use Rattle.system_io.specs.Files.{holds, WritesPart}

-- a write of fewer bytes touches no more
AfterWrite_wider : (at n more : ℕ) (old new : FileState) → n ≤ more → AfterWrite at n old new → AfterWrite at more old new
AfterWrite_wider at n more old new low so = record {
  before = so.before;
  behind = λ p high is. so.behind p (omega arith) is;
  no_shorter = so.no_shorter;
  no_longer = omega (arith, so.no_longer);
}

-- .. at each moment
wider : (file at most : ℕ) (bytes : List ℕ) (old new : Moments) → EachMoment (Changes file (AfterWrite at (length (take most bytes))) old.now) old new
    → EachMoment (Changes file (AfterWrite at (length bytes)) old.now) old new
wider file at most bytes old new each = weaken (Changes file (AfterWrite at (length bytes)) old.now)
    (λ (files : Files) so. record { here = AfterWrite_wider at (length (take most bytes)) (length bytes) (old.now file) (files file) (omega (arith, length-take most bytes)) so.here; others = so.others }) each

-- some bytes of the front were written, so they are of the whole
pub written_in_part : (tells : Bool) (file at most : ℕ) (bytes : List ℕ) (old new : Moments) (result : Result ℕ Error)
    → WritesPart tells file at (take most bytes) old new result → WritesPart tells file at bytes old new result
written_in_part tells file at most bytes old new (Ok n) so =
    let low : n ≤ min most (length bytes) = omega (arith, so.bound, length-take most bytes) in
    record {
      bound = omega arith;
      written = λ told. so.written told ∙ ap (λ (xs : List ℕ). put (holds old file) at xs) (take-take n most bytes (omega arith));
      interrupted = so.interrupted;
      time = λ told. wider file at most bytes old new (so.time told);
    }
written_in_part tells file at most bytes old new (Err e) so =
    record { bound = so.bound; written = so.written; interrupted = so.interrupted; time = λ told. wider file at most bytes old new (so.time told) }
