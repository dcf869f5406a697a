-- Histories with one item more.
use Rattle.std.proofs.Common.{◌≡◌, ℕ, Bool, true, false, cond, List, [], ◌∷◌, ◌++◌, refl, sym, ap, subst, ◌∙◌, arith}
use Rattle.std.proofs.lemmas.Grind.{common_steps}
use Rattle.std.specs.Prelude.{Some}
use Rattle.std.specs.List.{AllByRecursion}
use Rattle.std.specs.Str.{bytes_eq}
use Rattle.nmc_base.specs.declared.hashes.OutPoint.{OutPoint}
use Rattle.chain_names.specs.declared.coin.Item.{Item}
use Rattle.chain_names.specs.Coins.{entry_of, with_value}
use Rattle.chain_names.specs.Changes.{without_entry}
use Rattle.chain_names.specs.State.{IsUpTo, IsRising, IsLastItem}
use Rattle.chain_names.proofs.Changed.{bytes_eq-true, bytes_eq-self}

pub entry_of-more : (items : List Item) (item : Item) → entry_of (items ++ item ∷ []) ≡ Some item
entry_of-more [] item = refl
entry_of-more (first ∷ []) item = refl
entry_of-more (first ∷ second ∷ items) item = entry_of-more (second ∷ items) item

pub without_entry-more : (items : List Item) (item : Item) → without_entry (items ++ item ∷ []) ≡ items
without_entry-more items item = grind (arith, common_steps)

pub rising-more : (items : List Item) (item : Item) → IsRising items → AllByRecursion (IsUpTo item.height) items → IsRising (items ++ item ∷ [])
rising-more [] item rising low = tt
rising-more (first ∷ []) item rising low = (low.0, tt)
rising-more (first ∷ second ∷ items) item rising low = (rising.0, rising-more (second ∷ items) item rising.1 low.1)

-- the last item is one of them
pub entry_has : (P : Item → Type 0) (items : List Item) (item : Item) → AllByRecursion P items → entry_of items ≡ Some item → P item
entry_has P [] item all e = absurd cc
entry_has P (first ∷ []) item all e =
    let same : first ≡ item = cc in
    subst P same all.0
entry_has P (first ∷ second ∷ items) item all e = entry_has P (second ∷ items) item all.1 e

-- one name's history has the item more, and the others are as before
pub each_history : (names : List ℕ → List Item) (name : List ℕ) (new : Item) (P : List ℕ → List Item → Type 0) → P name (names name ++ new ∷ [])
    → ((n : List ℕ) → bytes_eq name n ≡ false → P n (names n)) → (n : List ℕ) → P n (with_value names name new n)
each_history names name new P here others n = by (bytes_eq name n) refl
  where
    by : (b : Bool) → bytes_eq name n ≡ b → P n (cond b (names name ++ new ∷ []) (names n))
    by true is = subst (λ k. P k (names name ++ new ∷ [])) (bytes_eq-true name n is) here
    by false is = others n is

-- its history is that with the item
pub own_history : (names : List ℕ → List Item) (name : List ℕ) (new : Item) → with_value names name new name ≡ names name ++ new ∷ []
own_history names name new = ap (λ b. cond b (names name ++ new ∷ []) (names name)) (bytes_eq-self name)

-- an item more is the last
pub last_item : (items : List Item) (item : Item) → IsLastItem (items ++ item ∷ []) item.height item.at
last_item items item = record { registered = item.registered; value = item.value; last = entry_of-more items item }

-- a history has one last item
pub one_point : (items : List Item) (height other : ℕ) (point point' : OutPoint) → IsLastItem items height point → IsLastItem items other point' → point ≡ point'
one_point items height other point point' a b =
    let one : Item = record { height = height; registered = a.registered; at = point; value = a.value } in
    let two : Item = record { height = other; registered = b.registered; at = point'; value = b.value } in
    let some : Some one ≡ Some two = sym a.last ∙ b.last in
    let same : one ≡ two = cc in
    ap (λ (item : Item). item.at) same
