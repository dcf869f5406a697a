-- Lists whose last element is taken away or put back.
use Rattle.std.proofs.Common.{◌≡◌, ℕ, zero, suc, ◌+◌, ◌-◌, List, [], ◌∷◌, ◌++◌, length, map, reverse, take, refl, sym, ap, ◌∙◌, arith, length-append, append_assoc}
use Rattle.std.proofs.lemmas.List.{reverse-append, map-append}
use Rattle.std.specs.Prelude.{Some, None, slice_get}
use Rattle.chain_names.specs.declared.coin.Item.{Item}
use Rattle.chain_names.specs.declared.undo.Undo.{Undo}
use Rattle.chain_names.specs.Seen.{seen_undo}
use Rattle.chain_names.specs.Changes.{without_entry}
use Rattle.chain_names.specs.Coins.{entry_of}
use Rattle.name_tables.specs.Parts.{newest_first}

module _ {A : Type 0} where
  pub reverse-more : (xs : List A) (x : A) → reverse (xs ++ x ∷ []) ≡ x ∷ reverse xs
  reverse-more xs x = reverse-append xs (x ∷ [])

  pub length-more : (xs : List A) (x : A) → length (xs ++ x ∷ []) ≡ suc (length xs)
  length-more xs x = let long : length (xs ++ x ∷ []) ≡ length xs + 1 = length-append xs (x ∷ []) in omega (arith, long)

  pub map-more : {B : Type 0} (f : A → B) (xs : List A) (x : A) → map f (xs ++ x ∷ []) ≡ map f xs ++ f x ∷ []
  map-more f xs x = map-append f xs (x ∷ [])

  -- what stands in the middle belongs to either side
  pub middle : (xs ys : List A) (x : A) → (xs ++ x ∷ []) ++ ys ≡ xs ++ x ∷ ys
  middle xs ys x = append_assoc xs (x ∷ []) ys

pub newest-more : (undos : List Undo) (undo : Undo) → newest_first (undos ++ undo ∷ []) ≡ seen_undo undo ∷ newest_first undos
newest-more undos undo = ap reverse (map-more seen_undo undos undo) ∙ reverse-more (map seen_undo undos) (seen_undo undo)

-- a history is what it is without its last item, and this
pub front_and_last : (items : List Item) (item : Item) → entry_of items ≡ Some item → without_entry items ++ item ∷ [] ≡ items
front_and_last [] item e = absurd cc
front_and_last (first ∷ []) item e = let same : first ≡ item = cc in ap (λ x. x ∷ []) (sym same)
front_and_last (first ∷ next ∷ items) item e =
    let past : length (first ∷ next ∷ items) - 1 ≡ suc (length (next ∷ items) - 1) = omega arith in
    ap (λ n. take n (first ∷ next ∷ items) ++ item ∷ []) past ∙ ap (λ rest. first ∷ rest) (front_and_last (next ∷ items) item e)

-- ---- the elements below a place

module _ {A : Type 0} where
  pub take_next : (xs : List A) (i : ℕ) (x : A) → slice_get xs i ≡ Some x → take (suc i) xs ≡ take i xs ++ x ∷ []
  take_next [] i x e = absurd cc
  take_next (y ∷ xs) zero x e = let same : y ≡ x = cc in ap (λ z. z ∷ []) same
  take_next (y ∷ xs) (suc i) x e = ap (λ l. y ∷ l) (take_next xs i x e)

  pub take_past : (xs : List A) (i : ℕ) → slice_get xs i ≡ None → take i xs ≡ xs
  take_past [] zero e = refl
  take_past [] (suc i) e = refl
  take_past (x ∷ xs) zero e = absurd cc
  take_past (x ∷ xs) (suc i) e = ap (λ l. x ∷ l) (take_past xs i e)
