-- What is read at a gate.
use Rattle.std.proofs.Common.{◌≡◌, ◌⊎◌, inl, inr, ℕ, zero, suc, ◌+◌, ◌<◌, ◌≤◌, ◌^◌, List, [], ◌∷◌, ◌++◌, length, take, drop, get_or, min, refl, sym, ◌∙◌, ap, subst, arith, append_assoc, length-take, take-append-drop}
use Rattle.std.specs.Prelude.{slice_index}
use Rattle.std.specs.Int.{w32, to_le_bytes, from_le_bytes}
use Rattle.std.proofs.lemmas.Nat.{le_bytes_4, from_le_bytes-to_le_bytes_4}
use Rattle.std.proofs.lemmas.List.{take_at, drop_at, take_all, take-take, drop-take, get_or-drop, get_or-take}
use Rattle.disk_model.specs.Moments.{Moments, EachMoment}
use Rattle.disk_model.specs.Changes.{Unchanged}
use Rattle.disk_model.specs.Reads.{IsRead}
use Rattle.disk_model.proofs.MomentLemmas.{weaken, join, last_moment}
use Rattle.gate_journal.specs.Gate.{field_of, IsRecordAt, IsStartAt, record_text}

-- two calls that leave the files
pub unchanged_then : {old mid new : Moments} → EachMoment (Unchanged old.now) old mid → EachMoment (Unchanged mid.now) mid new → EachMoment (Unchanged old.now) old new
unchanged_then {old} first second = join first (weaken (Unchanged old.now) (λ files so. so ∙ last_moment first) second)

pub take_more_of : (m n : ℕ) (l : List ℕ) → take (m + n) l ≡ take m l ++ take n (drop m l)
take_more_of m n l =
    let short : m ≤ m + n = omega arith in
    sym (take-append-drop m (take (m + n) l)) ∙ (λ i. take-take m (m + n) l short i ++ drop-take m n l i)

five : (l : List ℕ) → length l ≡ 5 → l ≡ get_or l 0 0 ∷ (get_or l 1 0 ∷ (get_or l 2 0 ∷ (get_or l 3 0 ∷ (get_or l 4 0 ∷ []))))
five [] size = absurd (omega arith)
five (a ∷ []) size = absurd (omega arith)
five (a ∷ b ∷ []) size = absurd (omega arith)
five (a ∷ b ∷ c ∷ []) size = absurd (omega arith)
five (a ∷ b ∷ c ∷ d ∷ []) size = absurd (omega arith)
five (a ∷ b ∷ c ∷ d ∷ e ∷ []) size = refl
five (a ∷ b ∷ c ∷ d ∷ e ∷ f ∷ l) size = absurd (omega arith)

field_fits : (start : List ℕ) → ((i : ℕ) → get_or start i 0 < 256) → (i : ℕ) → get_or (field_of start) i 0 < 256
field_fits start fit zero = fit 1
field_fits start fit (suc zero) = fit 2
field_fits start fit (suc (suc zero)) = fit 3
field_fits start fit (suc (suc (suc zero))) = fit 4
field_fits start fit (suc (suc (suc (suc n)))) = omega arith

pub field_bytes : (start : List ℕ) (size : ℕ) → ((i : ℕ) → get_or start i 0 < 256) → size ≡ from_le_bytes w32 (field_of start) → to_le_bytes w32 size ≡ field_of start
field_bytes start size fit is = le_bytes_4 (field_of start) size refl (field_fits start fit) is

-- the first five bytes at a gate
pub whole_start : (file start : List ℕ) (gate count : ℕ) → IsRead file gate 5 count start → length start ≡ 5 → 5 ≤ count → take 5 (drop gate file) ≡ start
whole_start file start gate count read size enough =
    let is : count ≡ 5 = omega (arith, read.count) in
    sym (subst (λ n. take n start ≡ take n (drop gate file)) is read.same) ∙ take_all 5 start (omega arith)

-- the gate byte
pub gate_read : (file start : List ℕ) (gate count : ℕ) → IsRead file gate 5 count start → gate < length file → slice_index file gate ≡ slice_index start 0
gate_read file start gate count read inside =
    let some : 0 < count = omega (arith, read.count) in
    let here : gate + 0 ≡ gate = omega arith in
    sym (ap (λ (n : ℕ). get_or file n 0) here) ∙ sym (get_or-drop gate file 0 0) ∙ sym (get_or-take count (drop gate file) 0 0 some) ∙ sym (ap (λ (l : List ℕ). get_or l 0 0) read.same) ∙ get_or-take count start 0 0 some

-- an open gate and a length
pub start_is : (start : List ℕ) (size : ℕ) → length start ≡ 5 → slice_index start 0 ≡ 1 → to_le_bytes w32 size ≡ field_of start → start ≡ 1 ∷ to_le_bytes w32 size
start_is start size whole is_open field = five start whole ∙ (λ i. is_open i ∷ sym field i)

pub start_found : (file : List ℕ) (gate limit size : ℕ) → take 5 (drop gate file) ≡ 1 ∷ to_le_bytes w32 size → size < 2 ^ 32 → gate + 5 + size < length file → gate + 5 + size < limit
    → IsStartAt file gate limit size
start_found file gate limit size start fits inside within = record {
  reads = take_more_of gate 5 file ∙ ap (λ (l : List ℕ). take gate file ++ l) start;
  fits = fits;
  inside = inside;
  within = within;
}

-- what a record has at its gate
pub record_start : (file record_is : List ℕ) (gate limit : ℕ) → IsRecordAt file gate limit record_is → take 5 (drop gate file) ≡ 1 ∷ to_le_bytes w32 (length record_is)
record_start file record_is gate limit is =
    let size = length (record_text record_is) in
    let at_gate : length (take gate file) ≡ gate = omega (arith, length-take gate file, is.inside) in
    let behind : take size (drop gate file) ≡ record_text record_is =
    sym (drop-take gate size file) ∙ ap (λ (l : List ℕ). drop gate l) is.reads ∙ drop_at (take gate file) (record_text record_is) gate at_gate in
    sym (take-take 5 size (drop gate file) (omega arith)) ∙ ap (λ (l : List ℕ). take 5 l) behind

-- A read at a gate came to the end of the file, or the length that it gave goes past the file or the limit.
pub record StartCutOff (file start : List ℕ) (gate limit count : ℕ) : Type 0 where
  pub read : IsRead file gate 5 count start
  pub whole : length start ≡ 5
  pub not_fit : (count < 5) ⊎ (min (length file) limit ≤ gate + 5 + from_le_bytes w32 (field_of start))

pub no_record : (file start : List ℕ) (gate limit count : ℕ) → StartCutOff file start gate limit count → (record_is : List ℕ) → IsRecordAt file gate limit record_is → ⊥
no_record file start gate limit count cut record_is found =
    let long : gate + 5 + length record_is < length file = omega (arith, found.inside) in
    let low : gate + 5 + length record_is < limit = omega (arith, found.within) in
    let enough : 5 ≤ count = omega (arith, cut.read.count) in
    let start_at : start ≡ 1 ∷ to_le_bytes w32 (length record_is) =
    sym (whole_start file start gate count cut.read cut.whole enough) ∙ record_start file record_is gate limit found in
    let size_is : from_le_bytes w32 (field_of start) ≡ length record_is =
    ap (λ (l : List ℕ). from_le_bytes w32 (field_of l)) start_at ∙ from_le_bytes-to_le_bytes_4 (length record_is) found.fits in
    elim cut.not_fit [
      | inl short ↦ omega arith
      | inr past ↦ omega arith
    ]

-- a record that was read behind its length
pub record_found : (file record_is : List ℕ) (gate limit size : ℕ) → IsStartAt file gate limit size → length record_is ≡ size → take size record_is ≡ take size (drop (gate + 5) file)
    → IsRecordAt file gate limit record_is
record_found file record_is gate limit size start whole read =
    let is : take size (drop (gate + 5) file) ≡ record_is = sym read ∙ take_all size record_is (omega arith) in
    let length_is : gate + length (record_text record_is) ≡ gate + 5 + size = omega arith in
    record {
      reads = ap (λ (n : ℕ). take n file) length_is ∙ take_more_of (gate + 5) size file ∙ (λ i. start.reads i ++ is i)
          ∙ ap (λ (n : ℕ). (take gate file ++ 1 ∷ to_le_bytes w32 n) ++ record_is) (sym whole) ∙ append_assoc (take gate file) (1 ∷ to_le_bytes w32 (length record_is)) record_is;
      fits = omega (arith, start.fits);
      inside = omega (arith, start.inside);
      within = omega (arith, start.within);
    }

-- the read behind the length gives the whole record
pub whole_count : (file buf : List ℕ) (gate limit size count : ℕ) → IsStartAt file gate limit size → IsRead file (gate + 5) size count buf → count ≡ size
whole_count file buf gate limit size count start read = omega (arith, read.count, start.inside)

pub record_read : (file buf : List ℕ) (gate limit count : ℕ) → IsStartAt file gate limit (length buf) → IsRead file (gate + 5) (length buf) count buf → IsRecordAt file gate limit buf
record_read file buf gate limit count start read =
    let all = whole_count file buf gate limit (length buf) count start read in
    record_found file buf gate limit (length buf) start refl (subst (λ n. take n buf ≡ take n (drop (gate + 5) file)) all read.same)

-- a list that was written over from end to end
pub written_over : (buf zeros : List ℕ) → length buf ≡ length zeros → take (length zeros) (buf ++ drop (length buf) zeros) ≡ buf
written_over buf zeros same = take_at buf (drop (length buf) zeros) (length zeros) same
