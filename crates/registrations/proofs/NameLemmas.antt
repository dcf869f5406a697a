-- Histories where one name's changes, and the places of names.
use Rattle.std.proofs.Common.{◌≡◌, ℕ, Bool, true, false, cond, List, [], ◌∷◌, ◌++◌, Option, Some, None, is_some, refl, sym, ap, ◌∙◌, true≢false}
use Rattle.std.proofs.Math.Path.{fun_ext}
use Rattle.std.proofs.lemmas.Map.Made.{is_some-lookup}
use Rattle.std.proofs.lemmas.Slice.Eq.{bytes_eq-Decides}
use Rattle.std.specs.List.{list_any}
use Rattle.std.specs.Map.{lookup, keys_of}
use Rattle.std.specs.Str.{bytes_eq}
use Rattle.indexmap.specs.IndexSet.{insert_key}
use Rattle.nmc_base.specs.Roomy.{Roomy}
use Rattle.chain_names.specs.declared.coin.Item.{Item}
use Rattle.chain_names.specs.Points.{changed}
use Rattle.chain_names.specs.Tables.{NameSlots, items_of, names_in, name_places}
use Rattle.chain_names.proofs.Changed.{changed_at, changed_kept}
use Rattle.registrations.specs.Told.{Histories}

-- ---- one name's history changes

-- changed twice, the last counts
pub changed_over : (names : Histories) (name : List ℕ) (items others : List Item) → changed bytes_eq (changed bytes_eq names name items) name others ≡ changed bytes_eq names name others
changed_over names name items others = fun_ext (λ n. over (bytes_eq name n) (names n))
  where
    over : (b : Bool) (kept : List Item) → cond b others (cond b items kept) ≡ cond b others kept
    over true kept = refl
    over false kept = refl

pub at_name : (names : Histories) (name : List ℕ) (items : List Item) → changed bytes_eq names name items name ≡ items
at_name names name items = changed_at bytes_eq-Decides names name items

pub same_there : (names : Histories) (name : List ℕ) (items : List Item) → names name ≡ items → changed bytes_eq names name items ≡ names
same_there names name items e = changed_kept bytes_eq-Decides names name items e

-- two changes in a row, where the first was one of this name too
pub then_changed : (first now next : Histories) (name : List ℕ) (items : List Item) → now ≡ changed bytes_eq first name (now name) → next ≡ changed bytes_eq now name items
    → (next ≡ changed bytes_eq first name (next name)) × (next name ≡ items)
then_changed first now next name items before e =
    let here : next name ≡ items = ap (λ (ns : Histories). ns name) e ∙ at_name now name items in (
      e ∙ ap (λ ns. changed bytes_eq ns name items) before ∙ changed_over first name (now name) items ∙ ap (changed bytes_eq first name) (sym here),
      here,
    )

-- ---- places

place_by_keys : (slots : NameSlots) (name : List ℕ) → name_places slots name ≡ list_any (bytes_eq name) (keys_of slots)
place_by_keys slots name = is_some-lookup (bytes_eq name) slots

-- tables with the same names have the same places
pub places_by_keys : (old new : NameSlots) → keys_of new ≡ keys_of old → name_places new ≡ name_places old
places_by_keys old new same =
    fun_ext (λ name. place_by_keys new name ∙ ap (list_any (bytes_eq name)) same ∙ sym (place_by_keys old name))

no_items : (entry : Option (Roomy Item)) → is_some entry ≡ false → items_of entry ≡ []
no_items None e = refl
no_items (Some history) e = absurd (true≢false e)

-- a name that isn't listed has no items
pub unlisted : (slots : NameSlots) (name : List ℕ) → list_any (bytes_eq name) (keys_of slots) ≡ false → names_in slots name ≡ []
unlisted slots name none = no_items (lookup (bytes_eq name) slots) (place_by_keys slots name ∙ none)

-- a name that has a place is listed already
pub listed_already : (slots : NameSlots) (name : List ℕ) → name_places slots name ≡ true → insert_key bytes_eq (keys_of slots) name ≡ keys_of slots
listed_already slots name here =
    ap (λ b. cond b (keys_of slots) (keys_of slots ++ name ∷ [])) (sym (place_by_keys slots name) ∙ here)
