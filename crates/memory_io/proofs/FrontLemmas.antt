-- A read that copies the front of what is left.
use Rattle.std.proofs.Common.{ℕ, ◌≡◌, min, false, List, ◌++◌, length, take, drop, sym, ap, ◌∙◌, length-append, length-drop, arith}
use Rattle.std.proofs.lemmas.List.{take_at, take-append-drop, length-take, nil_from_length}
use Rattle.fault_counts.specs.Counts.{faults_of}
use Rattle.fault_counts.specs.Faults.{NeverFell}
use Rattle.byte_io.specs.Source.{ReadsSome}
use Rattle.memory_io.specs.MemorySource.{SourceView, memory_seen}

-- the front of what was left stands in the buffer, and the rest is left
pub record CopiesFront (old new : SourceView) (before buffer : List ℕ) (n : ℕ) : Type 0 where
  pub count : n ≡ min (length old.left) (length before)
  pub copied : buffer ≡ take n old.left ++ drop n before
  pub rest_is : drop n old.left ≡ new.left

pub reads_front : (old new : SourceView) (before buffer : List ℕ) (n : ℕ) → CopiesFront old new before buffer n → new.counts.failed ≡ false → NeverFell (faults_of old.counts) (faults_of new.counts)
    → ReadsSome (memory_seen old) (memory_seen new) buffer n
reads_front old new before buffer n c worked later =
    let left = old.left in
    let front : length (take n left) ≡ n = omega (arith, c.count, length-take n left) in
    let there : take n buffer ≡ take n left = ap (take n) c.copied ∙ take_at (take n left) (drop n before) n front in
    record {
      bound = omega (arith, c.count, ap length c.copied, length-append (take n left) (drop n before));
      bytes = sym (take-append-drop n left) ∙ ap (λ (q : List ℕ). q ++ drop n left) (sym there) ∙ ap (λ (q : List ℕ). take n buffer ++ q) c.rest_is;
      ended = λ none some. nil_from_length new.left (omega (arith, c.count, ap length c.rest_is, length-drop n left, ap length c.copied, length-append (take n left) (drop n before), length-drop n before));
      worked = worked;
      later = later;
    }
