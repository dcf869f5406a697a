-- Names made of names.
use Rattle.std.proofs.Common.{◌≡◌, ℕ, ◌≤◌, List, [], ◌∷◌, ◌++◌, length, map, Bool, true, false, refl, sym, ap, ap₂, ◌∙◌, arith, nat_le, if◌then◌else◌, ◌&&◌, Some, None}
use Rattle.std.specs.List.{AllByRecursion, list_all}
use Rattle.std.specs.Char.{to_ascii_lowercase}
use Rattle.std.proofs.lemmas.List.{length-map, map-append}
use Rattle.std.proofs.lemmas.Bool.{and_parts}
use Rattle.std.proofs.lemmas.Bool.Decides.{nat_tests}
use Rattle.domain_text.specs.declared.limits.TheConstants.{LONGEST_WIRE}
use Rattle.domain_text.specs.Label.{is_label, is_label_byte}
use Rattle.domain_text.specs.Names.{IsName, IsWireLabel, joined_to, wire_of, lower, if_fits}

-- no length of a label is a letter
low : (n : ℕ) → n ≤ 63 → to_ascii_lowercase n ≡ n
low n h = grind (arith, nat_tests)

lower-wire_of : (labels : List (List ℕ)) → AllByRecursion IsWireLabel labels → lower (wire_of labels) ≡ wire_of (map lower labels)
lower-wire_of [] h = refl
lower-wire_of (l ∷ labels) h =
    ap₂ (λ n rest. n ∷ rest) (low (length l) h.0.1 ∙ sym (length-map l to_ascii_lowercase))
    (map-append to_ascii_lowercase l (wire_of labels) ∙ ap (λ w. lower l ++ w) (lower-wire_of labels h.1))

lower-labels : (labels : List (List ℕ)) → AllByRecursion IsWireLabel labels → AllByRecursion IsWireLabel (map lower labels)
lower-labels [] h = tt
lower-labels (l ∷ labels) h = ((omega (arith, length-map l to_ascii_lowercase, h.0.0), omega (arith, length-map l to_ascii_lowercase, h.0.1)), lower-labels labels h.1)

pub IsName-lower : (wire : List ℕ) → IsName wire → IsName (lower wire)
IsName-lower wire n = record {
  labels = map lower n.labels;
  are = lower-labels n.labels n.are;
  text = ap lower n.text ∙ lower-wire_of n.labels n.are;
  fits = omega (arith, length-map wire to_ascii_lowercase, n.fits);
}

pub joined_to-joined_to : (xs ys : List (List ℕ)) (end : List ℕ) → joined_to xs (joined_to ys end) ≡ joined_to (xs ++ ys) end
joined_to-joined_to [] ys end = refl
joined_to-joined_to (x ∷ xs) ys end = ap (λ w. length x ∷ (x ++ w)) (joined_to-joined_to xs ys end)

are_both : (xs ys : List (List ℕ)) → AllByRecursion IsWireLabel xs → AllByRecursion IsWireLabel ys → AllByRecursion IsWireLabel (xs ++ ys)
are_both [] ys h k = k
are_both (x ∷ xs) ys h k = (h.0, are_both xs ys h.1 k)

wire_label : (l : List ℕ) → is_label l ≡ true → IsWireLabel l
wire_label l h =
    let p = and_parts (nat_le 1 (length l) && nat_le (length l) 63) (list_all is_label_byte l) h in
    let q = and_parts (nat_le 1 (length l)) (nat_le (length l) 63) p.0 in
    (grind (arith, nat_tests, q.0), grind (arith, nat_tests, q.1))

pub wire_labels : (labels : List (List ℕ)) → list_all is_label labels ≡ true → AllByRecursion IsWireLabel labels
wire_labels [] h = tt
wire_labels (l ∷ labels) h = let p = and_parts (is_label l) _ h in (wire_label l p.0, wire_labels labels p.1)

fitting : (w wire : List ℕ) (b : Bool) → nat_le (length w) LONGEST_WIRE ≡ b → Some wire ≡ (if b then Some w else None) → (wire ≡ w) × (length w ≤ LONGEST_WIRE)
fitting w wire true e h = ((cc), grind (arith, nat_tests))
fitting w wire false e h = absurd (cc)

pub if_fits-Some : (w wire : List ℕ) → Some wire ≡ if_fits w → (wire ≡ w) × (length w ≤ LONGEST_WIRE)
if_fits-Some w wire h = fitting w wire (nat_le (length w) LONGEST_WIRE) refl h

pub IsName-joined : (labels : List (List ℕ)) (end wire : List ℕ) → list_all is_label labels ≡ true → IsName end → Some wire ≡ if_fits (joined_to labels end) → IsName wire
IsName-joined labels end wire are n h =
    let f = if_fits-Some (joined_to labels end) wire h in
    record {
      labels = labels ++ n.labels;
      are = are_both labels n.labels (wire_labels labels are) n.are;
      text = f.0 ∙ ap (joined_to labels) n.text ∙ joined_to-joined_to labels n.labels (0 ∷ []);
      fits = omega (arith, ap length f.0, f.1);
    }

pub fits_so : (n : ℕ) → n ≤ LONGEST_WIRE → nat_le n LONGEST_WIRE ≡ true
fits_so n h = grind (arith, nat_tests)
