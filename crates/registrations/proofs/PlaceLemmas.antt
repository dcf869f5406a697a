-- Which places a table has, once items were put into it.
use Rattle.std.proofs.Common.{◌≡◌, ◌≢◌, ◌⊎◌, Bool, true, false, cond, List, [], ◌∷◌, ◌++◌, ℕ, map, Option, Some, None, is_some, inl, inr, ⊎_elim, refl, sym, ap, ◌∙◌}
use Rattle.std.proofs.Math.Path.{fun_ext}
use Rattle.std.specs.Map.{lookup}
use Rattle.std.specs.Str.{bytes_eq}
use Rattle.nmc_base.specs.Roomy.{Roomy}
use Rattle.chain_names.specs.declared.coin.Item.{Item}
use Rattle.chain_names.specs.Coins.{with_value}
use Rattle.chain_names.specs.Points.{changed}
use Rattle.chain_names.specs.Tables.{NameSlots, items_of, names_in, name_places}
use Rattle.undo_records.specs.Versions.{item_without}
use Rattle.registrations.specs.Places.{PlacesFilled}
use Rattle.registrations.specs.Told.{Histories, names_without}

some_there : (items : List Item) (item : Item) → items ++ item ∷ [] ≢ []
some_there [] item e = absurd cc
some_there (first ∷ items) item e = absurd cc

pub one_filled : (old new : NameSlots) (name : List ℕ) (item : Item) → names_in new ≡ with_value (names_in old) name item → name_places new ≡ changed bytes_eq (name_places old) name true
    → PlacesFilled old new
one_filled old new name item names places other = by (bytes_eq name other) refl
  where
    by : (b : Bool) → bytes_eq name other ≡ b → (names_in new other ≢ []) ⊎ ((names_in new other ≡ names_in old other) × (name_places new other ≡ name_places old other))
    by true is =
        let here : names_in new other ≡ names_in old name ++ item ∷ [] =
        ap (λ (f : List ℕ → List Item). f other) names ∙ ap (λ b. cond b (names_in old name ++ item ∷ []) (names_in old other)) is in
        inl (λ none. some_there (names_in old name) item (sym here ∙ none))
    by false is =
        inr (
          ap (λ (f : List ℕ → List Item). f other) names ∙ ap (λ b. cond b (names_in old name ++ item ∷ []) (names_in old other)) is,
          ap (λ (f : List ℕ → Bool). f other) places ∙ ap (λ b. cond b true (name_places old other)) is,
        )

pub none_filled : (slots : NameSlots) → PlacesFilled slots slots
none_filled slots name = inr (refl, refl)

pub then_filled : (first now next : NameSlots) → PlacesFilled first now → PlacesFilled now next → PlacesFilled first next
then_filled first now next before after name =
    ⊎_elim (λ some. inl some)
    (λ same.
    ⊎_elim (λ some. inl (λ none. some (sym same.0 ∙ none))) (λ was. inr (same.0 ∙ was.0, same.1 ∙ was.1)) (before name)) (after name)

-- ---- once all is told as before

no_items : (entry : Option (Roomy Item)) → items_of entry ≢ [] → is_some entry ≡ true
no_items None some = absurd (some refl)
no_items (Some history) some = refl

pub placed : (slots : NameSlots) (name : List ℕ) → names_in slots name ≢ [] → name_places slots name ≡ true
placed slots name some = no_items (lookup (bytes_eq name) slots) some

pub none_told : (items others : List Item) → map item_without items ≡ map item_without others → others ≡ [] → items ≡ []
none_told [] others same none = refl
none_told (item ∷ items) others same none =
    let empty : map item_without (item ∷ items) ≡ [] = same ∙ ap (map item_without) none in
    absurd cc

-- where items were put only where there were items, no place is new
pub places_same : (first emptied last : NameSlots) → name_places emptied ≡ name_places first → PlacesFilled emptied last → names_without (names_in last) ≡ names_without (names_in first)
    → name_places last ≡ name_places first
places_same first emptied last same filled told = fun_ext (λ name. by name (filled name))
  where
    by : (name : List ℕ) → (names_in last name ≢ []) ⊎ ((names_in last name ≡ names_in emptied name) × (name_places last name ≡ name_places emptied name))
        → name_places last name ≡ name_places first name
    by name (inl some) =
        placed last name some
        ∙ sym (placed first name (λ none. some (none_told (names_in last name) (names_in first name) (ap (λ (ns : Histories). ns name) told) none)))
    by name (inr kept) = kept.1 ∙ ap (λ (places : List ℕ → Bool). places name) same
