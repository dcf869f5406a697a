-- Labels that aren't among those of an object's map.
use Rattle.std.proofs.Common.{◌≡◌, ℕ, suc, ◌+◌, ◌<◌, ◌≤◌, ◌==◌, List, length, set, get_or, below_more, Bool, true, false, Option, Some, None, is_some, not, refl, sym, ap, subst, ◌∙◌, arith, nat_lt}
use Rattle.std.specs.declared.cmp.Ordering.{Ordering}
use Rattle.std.specs.declared.cmp.Ordering.TheVariants.{Less, Equal, Greater}
use Rattle.std.specs.Ordering.{nat_cmp, match_ordering}
use Rattle.std.specs.Option.{option_and_then}
use Rattle.std.specs.Cmp.Lexicographic.{slice_cmp}
use Rattle.std.specs.List.{All}
use Rattle.std.specs.List.Sorted.{IsNonDecreasing}
use Rattle.std.proofs.lemmas.Bool.{or_parts}
use Rattle.std.proofs.lemmas.Bool.Decides.{nat_tests}
use Rattle.std.proofs.lemmas.List.{get_or-set_same, get_or-set_other}
use Rattle.std.proofs.lemmas.List.Elements.{All-from_get_or}
use Rattle.std.proofs.lemmas.List.Folds.{list_any_none}
use Rattle.std.proofs.lemmas.Map.Lookups.{exact_bytes}
use Rattle.serde_json.specs.Data.{Data, null, boolean, number, string, array, object, Members, no_members, member}
use Rattle.serde_json.specs.Find.{get, get_member, as_object}
use Rattle.domain_text.specs.Label.{is_entry_label}
use Rattle.ifa_value.specs.declared.item.Key.TheVariants as key
use Rattle.ifa_value.specs.Labels.{key_of_object, keys_of, keys_in, map_labels, label_number, label_numbers}
use Rattle.ifa_value.specs.Values.{entry_of, item_of}
use Rattle.import_expand.specs.Labels.{is_among, mark_at, IsMark, AreMarked}
use Rattle.import_expand.proofs.ExpandLemmas.{get_same}

differ : (x y : ℕ) → x ≡ y → (x == y) ≡ false → ⊥
differ x y e n = grind (arith, nat_tests)

at_order : (o : Ordering) (k l : List ℕ) (e : Data) (rest : Option Data) → slice_cmp nat_cmp k l ≡ o → (label_number l == label_number k) ≡ false → option_and_then as_object rest ≡ None → option_and_then as_object (match_ordering o rest (Some e) rest) ≡ None
at_order Less k l e rest c n r = r
at_order Greater k l e rest c n r = r
at_order Equal k l e rest c n r = absurd (differ (label_number l) (label_number k) (ap label_number (sym (exact_bytes k l c))) n)

no_object : (o : Ordering) (e : Data) (rest : Option Data) → as_object e ≡ None → option_and_then as_object rest ≡ None → option_and_then as_object (match_ordering o rest (Some e) rest) ≡ None
no_object Less e rest n r = r
no_object Greater e rest n r = r
no_object Equal e rest n r = n

get_none : (k : List ℕ) (ms : Members) → is_among (label_numbers (keys_of ms)) k ≡ false → option_and_then as_object (get_member k ms) ≡ None
get_none k no_members h = refl
get_none k (member l e ms) h = by_object (as_object e) refl (get_none k ms) h
  where
    by_object : (r : Option Members) → as_object e ≡ r → (is_among (label_numbers (keys_of ms)) k ≡ false → option_and_then as_object (get_member k ms) ≡ None) → is_among (label_numbers (key_of_object l r (keys_of ms))) k ≡ false
        → option_and_then as_object (match_ordering (slice_cmp nat_cmp k l) (get_member k ms) (Some e) (get_member k ms)) ≡ None
    by_object (Some o) is more h =
        let parts = or_parts (label_number l == label_number k) (is_among (label_numbers (keys_of ms)) k) h in
        at_order (slice_cmp nat_cmp k l) k l e (get_member k ms) refl parts.0 (more parts.1)
    by_object None is more h = no_object (slice_cmp nat_cmp k l) e (get_member k ms) is (more h)

in_map : (label : List ℕ) (d : Option Data) → is_among (label_numbers (keys_in d)) label ≡ false → option_and_then as_object (option_and_then (get label) d) ≡ None
in_map label None h = refl
in_map label (Some (object ms)) h = get_none label ms h
in_map label (Some null) h = refl
in_map label (Some (boolean b)) h = refl
in_map label (Some (number n)) h = refl
in_map label (Some (string s)) h = refl
in_map label (Some (array ds)) h = refl

-- under a label that isn't among those of the map there is no entry
pub no_entry : (label : List ℕ) (o : Members) → is_among (label_numbers (map_labels o)) label ≡ false → is_some (entry_of label o) ≡ false
no_entry label o h = by_label (is_entry_label label) refl
  where
    by_label : (b : Bool) → is_entry_label label ≡ b → is_some (entry_of label o) ≡ false
    by_label false e = rw e refl
    by_label true e = rw (e, in_map label (item_of key.Map o) h) refl

other : (xs : List ℕ) (x i : ℕ) → ((k : ℕ) → k < i → get_or xs k 0 < x) → ((k : ℕ) → i ≤ k → k < length xs → x < get_or xs k 0) → All (λ n. (n == x) ≡ false) xs
other xs x i low high = All-from_get_or (λ n. (n == x) ≡ false) xs 0 (λ k w. by_side k w (nat_lt k i) refl)
  where
    by_side : (k : ℕ) → k < length xs → (b : Bool) → nat_lt k i ≡ b → (get_or xs k 0 == x) ≡ false
    by_side k w true e = let b : k < i = grind (arith, nat_tests, e) in let l = low k b in grind (arith, nat_tests, l)
    by_side k w false e = let b : i ≤ k = grind (arith, nat_tests, e) in let l = high k b w in grind (arith, nat_tests, l)

-- a number that isn't at the place where the lower ones end
not_found : (xs : List ℕ) (x i : ℕ) → IsNonDecreasing xs → ((k : ℕ) → k < i → get_or xs k 0 < x) → (i < length xs → x < get_or xs i 0) → All (λ n. (n == x) ≡ false) xs
not_found xs x i rise low above = other xs x i low (λ k b w. let r = rise i k 0 b w in let a = above (omega (arith, b, w)) in omega (arith, r, a))

not_among : (xs : List ℕ) (x : ℕ) (label : List ℕ) → label_number label ≡ x → All (λ n. (n == x) ≡ false) xs → is_among xs label ≡ false
not_among xs x label e none = rw e (list_any_none (λ n. n == x) xs none)

strict : (x y : ℕ) → x ≤ y → (y ≡ x → ⊥) → x < y
strict x y h other = by_test (nat_lt x y) refl
  where
    by_test : (b : Bool) → nat_lt x y ≡ b → x < y
    by_test true e = grind (arith, nat_tests, e)
    by_test false e = let b : y ≤ x = grind (arith, nat_tests, e) in absurd (other (omega (arith, h, b)))

-- the number at that place is higher, where it is another
pub above_at : (s xs : List ℕ) (x i v : ℕ) → s ≡ xs → ((k : ℕ) → i ≤ k → k < length s → x ≤ get_or s k 0) → v ≡ get_or xs i v → (v ≡ x → ⊥) → i < length xs → x < get_or xs i 0
above_at s xs x i v same high is other_number within =
    let e : v ≡ get_or xs i 0 = is ∙ get_same xs i v 0 within in
    strict x (get_or xs i 0) (subst (λ (l : List ℕ). (k : ℕ) → i ≤ k → k < length l → x ≤ get_or l k 0) same high i (omega arith) within) (λ d. other_number (e ∙ d))

pub absent_at : (s xs : List ℕ) (x i : ℕ) (label : List ℕ) → s ≡ xs → label_number label ≡ x → IsNonDecreasing xs → ((k : ℕ) → k < i → get_or s k 0 < x) → (i < length xs → x < get_or xs i 0) → is_among xs label ≡ false
absent_at s xs x i label same e rise low above = not_among xs x label e (not_found xs x i rise (subst (λ (l : List ℕ). (k : ℕ) → k < i → get_or l k 0 < x) same low) above)

-- one number more, whose mark takes the place of the one that stood there
pub marks_more : (factor : ℕ) (marks numbers : List ℕ) (n mark new : ℕ) → mark < length marks → mark ≡ mark_at factor (get_or numbers n 0) → IsMark n new → ((k : ℕ) → IsMark k (get_or marks mark 0) → new ≡ 255)
    → ((k : ℕ) → k < n → IsMark k (get_or marks (mark_at factor (get_or numbers k 0)) 0)) → (k : ℕ) → k < n + 1 → IsMark k (get_or (set marks mark new) (mark_at factor (get_or numbers k 0)) 0)
marks_more factor marks numbers n mark new within at its shared before =
    below_more _ _ (λ k low. older k (before k low) (mark_at factor (get_or numbers k 0) == mark) refl) (subst (IsMark n) (sym (ap (λ i. get_or (set marks mark new) i 0) (sym at) ∙ get_or-set_same marks mark new 0 within)) its)
  where
    older : (k : ℕ) → IsMark k (get_or marks (mark_at factor (get_or numbers k 0)) 0) → (b : Bool) → (mark_at factor (get_or numbers k 0) == mark) ≡ b → IsMark k (get_or (set marks mark new) (mark_at factor (get_or numbers k 0)) 0)
    older k had true e =
        let same : mark_at factor (get_or numbers k 0) ≡ mark = grind (arith, nat_tests, e) in
        let all : new ≡ 255 = shared k (subst (IsMark k) (ap (λ i. get_or marks i 0) same) had) in
        λ other. ap (λ i. get_or (set marks mark new) i 0) same ∙ get_or-set_same marks mark new 0 within ∙ all
    older k had false e = subst (IsMark k) (sym (get_or-set_other marks mark (mark_at factor (get_or numbers k 0)) new 0 (λ d. differ _ _ d e))) had

-- no number at these places is this one
pub unmarked : (xs : List ℕ) (x : ℕ) (label : List ℕ) → label_number label ≡ x → ((k : ℕ) → k < length xs → get_or xs k 0 ≡ x → ⊥) → is_among xs label ≡ false
unmarked xs x label e none = not_among xs x label e (All-from_get_or (λ n. (n == x) ≡ false) xs 0 (λ k w. by_test k w (get_or xs k 0 == x) refl))
  where
    by_test : (k : ℕ) → k < length xs → (b : Bool) → (get_or xs k 0 == x) ≡ b → (get_or xs k 0 == x) ≡ false
    by_test k w false is = is
    by_test k w true is = absurd (none k w (grind (arith, nat_tests, is)))

-- a number whose mark stands at its place
its_mark : (factor : ℕ) (marks xs : List ℕ) (x k mark : ℕ) → AreMarked factor marks xs → get_or marks (mark_at factor x) 0 ≡ mark → k < length xs → get_or xs k 0 ≡ x → IsMark k mark
its_mark factor marks xs x k mark all is within same = subst (IsMark k) (ap (λ n. get_or marks (mark_at factor n) 0) same ∙ is) (all k within)

-- a number without a mark isn't among those that have theirs
pub no_mark : (factor : ℕ) (marks xs : List ℕ) (x : ℕ) (label : List ℕ) → AreMarked factor marks xs → get_or marks (mark_at factor x) 0 ≡ 0 → label_number label ≡ x → is_among xs label ≡ false
no_mark factor marks xs x label all none e =
    unmarked xs x label e (λ k within same. let h : 0 ≡ 255 = its_mark factor marks xs x k 0 all none within same (λ d. absurd (omega (arith, d))) in absurd (omega (arith, h)))

-- a number with the mark of another's place, which no third one has, isn't among them
pub other_place : (factor : ℕ) (marks xs : List ℕ) (x at : ℕ) (label : List ℕ) → AreMarked factor marks xs → get_or marks (mark_at factor x) 0 ≡ suc at → at < 254 → (at < length xs → get_or xs at 0 ≡ x → ⊥) → label_number label ≡ x → is_among xs label ≡ false
other_place factor marks xs x at label all mark low other_number e = unmarked xs x label e (λ k within same. by_place k within same (k == at) refl)
  where
    by_place : (k : ℕ) → k < length xs → get_or xs k 0 ≡ x → (b : Bool) → (k == at) ≡ b → ⊥
    by_place k within same true is =
        let here : k ≡ at = grind (arith, nat_tests, is) in
        other_number (omega (arith, within, here)) (ap (λ n. get_or xs n 0) (sym here) ∙ same)
    by_place k within same false is =
        let h : suc at ≡ 255 = its_mark factor marks xs x k (suc at) all mark within same (λ d. let here : k ≡ at = omega (arith, d) in differ k at here is) in
        absurd (omega (arith, h, low))

pub not_true : (b : Bool) → not b ≡ true → b ≡ false
not_true false h = refl
not_true true h = absurd (cc)
