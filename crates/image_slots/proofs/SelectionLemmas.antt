-- The records of selections, and where they stand.
use Rattle.std.proofs.Common.{◌≡◌, inl, inr, ℕ, zero, suc, ◌+◌, ◌*◌, ◌<◌, List, [], ◌∷◌, ◌++◌, length, take, get_or, refl, sym, ◌∙◌, ap, subst, arith, length-append, length-take}
use Rattle.std.specs.Prelude.{All}
use Rattle.std.proofs.lemmas.Bool.{cases_eq}
use Rattle.std.proofs.lemmas.List.{take-take, take_at, get_or-take, get_or_at}
use Rattle.gate_journal.specs.Gate.{IsOpen, IsRecordAt, record_text, behind_gate}
use Rattle.gate_journal.specs.Records.{Fits, HasRecordsTo, records_text}
use Rattle.gate_journal.proofs.RecordLemmas.{records_text-push, front-push, none_fit, pushed_fit, told_apart}
use Rattle.gate_journal.proofs.GateLemmas.{place_of}
use Rattle.image_slots.specs.Selections.{HasSelections, selections, next_selection}

next_fits : (count : ℕ) → Fits (next_selection count)
next_fits count = omega arith

pub all_fit : (count : ℕ) → All Fits (selections count)
all_fit zero = none_fit
all_fit (suc count) = pushed_fit (selections count) (next_selection count) (all_fit count) (next_fits count)

number_of : (count : ℕ) → length (selections count) ≡ count
number_of zero = refl
number_of (suc count) = omega (arith, number_of count, length-append (selections count) (next_selection count ∷ []))

-- each has six bytes
pub text_size : (count : ℕ) → length (records_text (selections count)) ≡ 6 * count
text_size zero = refl
text_size (suc count) =
    omega (arith, text_size count, ap length (records_text-push (selections count) (next_selection count)), length-append (records_text (selections count)) (record_text (next_selection count)))

-- a file has one number of them
pub same_number : (front : List ℕ) (count other : ℕ) (file : List ℕ) → HasSelections front count file → HasSelections front other file → count ≡ other
same_number front count other file a b = sym (number_of count) ∙ ap length (told_apart front file (selections count) (selections other) a.closed b.closed a.fit b.fit) ∙ number_of other

-- ---- up to a gate

pub gate_is : (gate : ℕ) (front : List ℕ) (count : ℕ) (file : List ℕ) → HasRecordsTo gate front (selections count) file → gate ≡ length front + 6 * count
gate_is gate front count file has = omega (arith, place_of gate front (selections count) file has, length-append front (records_text (selections count)), text_size count)

module _ (gate : ℕ) (front : List ℕ) (count : ℕ) (file : List ℕ) (has : HasRecordsTo (gate + 6) front (selections (suc count)) file) where
  abbrev before : List ℕ
  before = front ++ records_text (selections count)

  reads : take (gate + 6) file ≡ before ++ record_text (next_selection count)
  reads = has.begins ∙ front-push front (selections count) (next_selection count)

  gate_before : gate ≡ length before
  gate_before = omega (arith, gate_is (gate + 6) front (suc count) file has, length-append front (records_text (selections count)), text_size count)

  -- one selection less
  pub fewer : HasRecordsTo gate front (selections count) file
  fewer = record {
    begins = sym (take-take gate (gate + 6) file (omega arith)) ∙ ap (λ (l : List ℕ). take gate l) reads ∙ take_at before (record_text (next_selection count)) gate (sym gate_before);
    inside = omega (arith, has.inside);
    fit = all_fit count;
  }

  -- the last of them stands at the gate before
  pub last_stands : (limit : ℕ) → gate + 6 < limit → IsRecordAt file gate limit (next_selection count)
  last_stands limit within = record {
    reads = reads ∙ ap (λ (l : List ℕ). l ++ record_text (next_selection count)) (sym fewer.begins);
    fits = next_fits count;
    inside = has.inside;
    within = within;
  }

-- where more selections stand, the next one behind some of them does
pub stands_next : (front file : List ℕ) (some count gate limit : ℕ) → some < count → HasRecordsTo gate front (selections count) file → gate < limit
    → IsRecordAt file (length front + 6 * some) limit (next_selection some)
stands_next front file some zero gate limit less has within = absurd (omega arith)
stands_next front file some (suc count) gate limit less has within =
    let last = length front + 6 * count in
    let gate_at : gate ≡ last + 6 = omega (arith, gate_is gate front (suc count) file has) in
    let there = subst (λ (n : ℕ). HasRecordsTo n front (selections (suc count)) file) gate_at has in
    elim (cases_eq some count) [
      | inl same ↦ subst (λ (n : ℕ). IsRecordAt file (length front + 6 * n) limit (next_selection n)) (sym same) (last_stands last front count file there limit (omega (arith, gate_at)))
      | inr differ ↦ stands_next front file some count last limit (omega arith) (fewer last front count file there) (omega (arith, gate_at))
    ]

-- a record stands behind an open gate
pub open_at : (file : List ℕ) (gate limit : ℕ) (record_is : List ℕ) → IsRecordAt file gate limit record_is → IsOpen file gate
open_at file gate limit record_is is =
    let low : gate < gate + length (record_text record_is) = omega arith in
    let size : gate ≡ length (take gate file) = omega (arith, length-take gate file, is.inside) in
    sym (get_or-take (gate + length (record_text record_is)) file gate 0 low) ∙ ap (λ (l : List ℕ). get_or l gate 0) is.reads ∙ get_or_at (take gate file) 1 (behind_gate record_is) 0 gate (sym size)
