-- The last of a history, and a history without it.
use Rattle.std.proofs.Common.{◌≡◌, suc, ◌-◌, ◌==◌, true, false, true≢false, List, [], ◌∷◌, ◌++◌, length, slice_get, Option, Some, None, is_some, refl, sym, ap, ◌∙◌, arith}
use Rattle.std.proofs.lemmas.Bool.{eqb-true}
use Rattle.std.specs.Option.{IfSome, IfNone}
use Rattle.nmc_base.specs.Roomy.{Roomy}
use Rattle.chain_names.specs.declared.coin.Item.{Item}
use Rattle.chain_names.specs.Changes.{without_entry}
use Rattle.chain_names.specs.Coins.{entry_of}
use Rattle.chain_names.proofs.HistoryLemmas.{entry_of-more, without_entry-more}

pub slice_get-last : (items : List Item) → slice_get items (length items - 1) ≡ entry_of items
slice_get-last [] = refl
slice_get-last (item ∷ []) = refl
slice_get-last (item ∷ next ∷ items) =
    let past : length (item ∷ next ∷ items) - 1 ≡ suc (length (next ∷ items) - 1) = omega arith in
    rw past (slice_get-last (next ∷ items))

pub is_some-entry_of : (items : List Item) → (items ≡ [] → ⊥) → is_some (entry_of items) ≡ true
is_some-entry_of [] some = absurd (some refl)
is_some-entry_of (item ∷ []) some = refl
is_some-entry_of (item ∷ next ∷ items) some = is_some-entry_of (next ∷ items) (λ h. absurd (cons h))
  where
    cons : next ∷ items ≡ [] → ⊥
    cons h = cc

-- what `pop` takes, and what it leaves
pub popped-entry : (result : Option Item) (old new : List Item) → IfSome result (λ item. old ≡ new ++ item ∷ []) → IfNone result (old ≡ [])
    → result ≡ entry_of old
popped-entry (Some item) old new some none = sym (ap entry_of some ∙ entry_of-more new item)
popped-entry None old new some none = sym (ap entry_of none)

pub popped-rest : (result : Option Item) (old new : Roomy Item) → IfSome result (λ item. old.items ≡ new.items ++ item ∷ []) → IfNone result (old.items ≡ [])
    → IfNone result (new ≡ old) → new.items ≡ without_entry old.items
popped-rest (Some item) old new some none same = sym (ap without_entry some ∙ without_entry-more new.items item)
popped-rest None old new some none same = ap (λ (history : Roomy Item). history.items) same ∙ none ∙ sym (ap without_entry none)

pub empty_from_length : (items : List Item) → true ≡ (length items == 0) → items ≡ []
empty_from_length [] h = refl
empty_from_length (item ∷ items) h = let none = eqb-true (length (item ∷ items)) 0 (sym h) in absurd (omega arith)

pub filled_from_length : (items : List Item) → false ≡ (length items == 0) → items ≡ [] → ⊥
filled_from_length items h empty = true≢false (sym (h ∙ ap (λ (l : List Item). length l == 0) empty))
