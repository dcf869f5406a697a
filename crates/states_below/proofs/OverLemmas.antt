-- What is seen through a layer of entries, once the entry of one name changed.
use Rattle.std.proofs.Common.{◌≡◌, ℕ, ◌-◌, ◌≤◌, Bool, true, false, cond, List, take, length, Option, Some, None, refl, sym, ap, subst, ◌∙◌, arith, true≢false}
use Rattle.std.proofs.Math.Path.{fun_ext}
use Rattle.std.proofs.lemmas.Bool.{false_from_ne_true}
use Rattle.std.proofs.lemmas.Grind.{common_steps}
use Rattle.std.proofs.lemmas.Slice.Eq.{bytes_eq-Decides}
use Rattle.std.specs.Map.{lookup, KeepsOthers}
use Rattle.std.specs.Str.{bytes_eq}
use Rattle.std.specs.declared.vec.Vec.{Vec}
use Rattle.chain_names.specs.declared.coin.Item.{Item}
use Rattle.chain_names.specs.Changes.{without_entry}
use Rattle.chain_names.specs.Points.{changed}
use Rattle.states_below.specs.Views.{items_over, has_bytes}

-- the entry of one name is another, and those of the other names are the same
entry_changed : {A : Type 0} (old new : List (Vec ℕ A × ℕ)) (name : List ℕ) (entry : Option ℕ) → lookup (has_bytes name) new ≡ entry
    → KeepsOthers (λ x y. bytes_eq x.items y.items) (has_bytes name) old new
    → (n : List ℕ) → lookup (has_bytes n) new ≡ cond (bytes_eq name n) entry (lookup (has_bytes n) old)
unfolding KeepsOthers
entry_changed {A = A} old new name entry here others n = by (bytes_eq name n) refl
  where
    key_test : (x y : Vec ℕ A) → has_bytes n x ≡ true → has_bytes n y ≡ bytes_eq x.items y.items
    key_test x y h = ap (λ (b : List ℕ). bytes_eq b y.items) ((bytes_eq-Decides n x.items).0 h)

    apart : bytes_eq name n ≡ false → (x : Vec ℕ A) → has_bytes name x ≡ true → has_bytes n x ≡ false
    apart e x h = false_from_ne_true (has_bytes n x) (λ same.
        let one = (bytes_eq-Decides name x.items).0 h ∙ sym ((bytes_eq-Decides n x.items).0 same) in
        true≢false (sym ((bytes_eq-Decides name n).1 one) ∙ e))

    by : (b : Bool) → bytes_eq name n ≡ b → lookup (has_bytes n) new ≡ cond b entry (lookup (has_bytes n) old)
    by true e = subst (λ (k : List ℕ). lookup (has_bytes k) new ≡ entry) ((bytes_eq-Decides name n).0 e) here
    by false e = others (has_bytes n) key_test (apart e)

-- a front of a front
take-less : (m k : ℕ) (items : List Item) → m ≤ length (take k items) → take m (take k items) ≡ take m items
take-less m k items low = grind (arith, common_steps)

-- one item less of what is seen
over-less : (under : List Item) (over : Option ℕ) → take (length (items_over under over) - 1) under ≡ without_entry (items_over under over)
over-less under None = refl
over-less under (Some count) = sym (take-less (length (take count under) - 1) count under (omega arith))

module _ {A : Type 0} (under : List ℕ → List Item) (old new : List (Vec ℕ A × ℕ)) (name : List ℕ) (left : ℕ) where
  abbrev Seen : List ℕ → List Item
  Seen n = items_over (under n) (lookup (has_bytes n) old)

  pub popped : left ≡ length (Seen name) - 1 → lookup (has_bytes name) new ≡ Some left → KeepsOthers (λ x y. bytes_eq x.items y.items) (has_bytes name) old new
      → (λ n. items_over (under n) (lookup (has_bytes n) new)) ≡ changed bytes_eq Seen name (without_entry (Seen name))
  popped is here others = fun_ext (λ n. ap (items_over (under n)) (entry_changed old new name (Some left) here others n) ∙ by n (bytes_eq name n) refl)
    where
      by : (n : List ℕ) (b : Bool) → bytes_eq name n ≡ b → items_over (under n) (cond b (Some left) (lookup (has_bytes n) old)) ≡ cond b (without_entry (Seen name)) (Seen n)
      by n true e =
          ap (λ (k : List ℕ). take left (under k)) (sym ((bytes_eq-Decides name n).0 e)) ∙ ap (λ (m : ℕ). take m (under name)) is
          ∙ over-less (under name) (lookup (has_bytes name) old)
      by n false e = refl
