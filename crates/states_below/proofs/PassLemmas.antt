-- Going over a list, place by place, meets all of it: each coin of a table, and each name that has items.
use Rattle.std.proofs.Common.{◌≡◌, ℕ, zero, suc, Bool, true, false, cond, List, [], ◌∷◌, take, slice_get, Option, Some, None, is_some, ⊎_elim, refl, sym, ap, ◌∙◌, true≢false}
use Rattle.std.specs.List.{list_any}
use Rattle.std.specs.Map.{lookup, keys_of}
use Rattle.std.specs.Str.{bytes_eq}
use Rattle.std.proofs.lemmas.Bool.{and_parts, and_from, or_cases}
use Rattle.std.proofs.lemmas.Map.Made.{is_some-lookup}
use Rattle.nmc_base.specs.Roomy.{Roomy}
use Rattle.nmc_base.specs.declared.hashes.OutPoint.{OutPoint}
use Rattle.chain_names.specs.declared.coin.Coin.{Coin}
use Rattle.chain_names.specs.declared.coin.Item.{Item}
use Rattle.chain_names.specs.Points.{same_point}
use Rattle.chain_names.specs.Tables.{CoinSlots, NameSlots, filled_by, coins_in, items_of, names_in}
use Rattle.chain_names.proofs.Changed.{bytes_eq-true}
use Rattle.chain_names.proofs.Points.{same_point-true}
use Rattle.states_below.specs.Bottom.{AllNamesPass}
use Rattle.states_below.specs.Scan.{AllPass, slot_passes, all_pass}
use Rattle.states_below.specs.StepTests.{all_by}
use Rattle.states_below.specs.Views.{items_over}

module _ {A : Type 0} (test : A → Bool) where
  pub one_more : (xs : List A) (i : ℕ) (x : A) → slice_get xs i ≡ Some x → test x ≡ true → all_by test (take i xs) ≡ true → all_by test (take (suc i) xs) ≡ true
  one_more [] i x e pass all = refl
  one_more (first ∷ xs) zero x e pass all =
      let same : first ≡ x = cc in
      and_from (test first) true (ap test same ∙ pass) refl
  one_more (first ∷ xs) (suc i) x e pass all =
      let parts = and_parts (test first) (all_by test (take i xs)) all in
      and_from (test first) (all_by test (take (suc i) xs)) parts.0 (one_more xs i x e pass parts.1)

  pub whole : (xs : List A) (i : ℕ) → slice_get xs i ≡ None → all_by test (take i xs) ≡ true → all_by test xs ≡ true
  whole [] i past all = refl
  whole (first ∷ xs) zero past all = absurd cc
  whole (first ∷ xs) (suc i) past all =
      let parts = and_parts (test first) (all_by test (take i xs)) all in
      and_from (test first) (all_by test xs) parts.0 (whole xs i past parts.1)

-- ---- coins

module _ (test : OutPoint → Coin → Bool) where
  pub each_passes : (slots : CoinSlots) → all_pass test slots ≡ true → AllPass test slots
  each_passes [] all point coin e = absurd cc
  each_passes (first ∷ slots) all point coin e =
      let parts = and_parts (slot_passes test first) (all_pass test slots) all in
      each-by first slots point coin parts.0 (λ e'. each_passes slots parts.1 point coin e') (same_point point first.0) refl e
    where
      held_passes : (q : OutPoint) (v : Option Coin) (c : Coin) → v ≡ Some c → slot_passes test (q, v) ≡ true → test q c ≡ true
      held_passes q None c e' pass = absurd cc
      held_passes q (Some d) c e' pass = let same : d ≡ c = cc in ap (test q) (sym same) ∙ pass

      each-by : (slot : OutPoint × Option Coin) (rest : CoinSlots) (q : OutPoint) (c : Coin) → slot_passes test slot ≡ true → (coins_in rest q ≡ Some c → test q c ≡ true)
          → (b : Bool) → same_point q slot.0 ≡ b → filled_by (cond b (Some slot.1) (lookup (same_point q) rest)) ≡ Some c → test q c ≡ true
      each-by slot rest q c pass later true is e' = ap (λ p. test p c) (same_point-true q slot.0 is) ∙ held_passes slot.0 slot.1 c e' pass
      each-by slot rest q c pass later false is e' = later e'

-- ---- names

listed_passes : (test : List ℕ → Bool) (keys : List (List ℕ)) (name : List ℕ) → all_by test keys ≡ true → list_any (bytes_eq name) keys ≡ true → test name ≡ true
listed_passes test [] name all e = absurd (true≢false (sym e))
listed_passes test (key ∷ keys) name all e =
    let parts = and_parts (test key) (all_by test keys) all in
    ⊎_elim (λ here. ap test (bytes_eq-true name key here) ∙ parts.0) (λ there. listed_passes test keys name parts.1 there) (or_cases (bytes_eq name key) (list_any (bytes_eq name) keys) e)

no_items : (entry : Option (Roomy Item)) → is_some entry ≡ false → items_of entry ≡ []
no_items None e = refl
no_items (Some history) e = absurd (true≢false e)

empty_over : (items : List Item) (over : Option ℕ) → items ≡ [] → items_over items over ≡ []
empty_over items None e = e
empty_over items (Some count) e = ap (take count) e ∙ none count
  where
    none : (n : ℕ) → take {A = Item} n [] ≡ []
    none zero = refl
    none (suc n) = refl

-- the names of the table pass, and the others have no items
pub each_name : (test : List ℕ → Bool) (names : List ℕ → List Item) (slots : NameSlots) (over : List ℕ → Option ℕ)
    → ((name : List ℕ) → names name ≡ items_over (names_in slots name) (over name)) → ((name : List ℕ) → names name ≡ [] → test name ≡ true)
    → all_by test (keys_of slots) ≡ true → AllNamesPass test
each_name test names slots over seen empty all name = by (list_any (bytes_eq name) (keys_of slots)) refl
  where
    by : (b : Bool) → list_any (bytes_eq name) (keys_of slots) ≡ b → test name ≡ true
    by true is = listed_passes test (keys_of slots) name all is
    by false is =
        let none : names_in slots name ≡ [] = no_items (lookup (bytes_eq name) slots) (is_some-lookup (bytes_eq name) slots ∙ is) in
        empty name (seen name ∙ empty_over (names_in slots name) (over name) none)
