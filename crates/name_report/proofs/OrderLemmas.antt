-- Names that are put into order one by one, and the one list of them in order.
use Rattle.std.proofs.Common.{◌≡◌, ℕ, suc, Bool, true, false, cond, ◌||◌, List, [], ◌∷◌, take, refl, sym, ap, ◌∙◌}
use Prim.Native.Nat.{zero}
use Rattle.std.specs.Prelude.{Option, Some, None}
use Rattle.std.specs.Cmp.Lexicographic.{slice_cmp, nat_list_cmp_total}
use Rattle.std.specs.List.{list_any, slice_get, AllByRecursion}
use Rattle.std.specs.List.Sorted.{IsStrictlySortedBy}
use Rattle.std.specs.Map.{keys_of, lookup}
use Rattle.std.specs.Option.{is_some}
use Rattle.std.specs.Ordering.{nat_cmp, match_ordering, is_eq}
use Rattle.std.specs.BTreeSet.{insert_key}
use Rattle.std.specs.Str.{bytes_eq}
use Rattle.std.specs.declared.cmp.Ordering.{Ordering}
use Rattle.std.specs.declared.cmp.Ordering.TheVariants.{Less, Equal, Greater}
use Rattle.std.proofs.lemmas.Map.Lookups.{exact_bytes, btree_set_from_contains}
use Rattle.std.proofs.lemmas.Map.Text.{is_eq-slice_cmp}
use Rattle.std.proofs.lemmas.Option.{none-some}
use Rattle.name_report.specs.Order.{has_name, AreAscending, bytes_of, Orders}
use denote.Ref.{Bor}

or_again : (a b c : Bool) → a ≡ b → (b || c) ≡ (a || (b || c))
or_again true b c e = cc
or_again false b c e = refl

or_swapped : (a b c : Bool) → (b || (a || c)) ≡ (a || (b || c))
or_swapped true true c = refl
or_swapped true false c = refl
or_swapped false true c = refl
or_swapped false false c = refl

-- ---- into their order

abbrev pub by_bytes : Bor (List ℕ) → Bor (List ℕ) → Ordering
by_bytes a b = slice_cmp nat_cmp a.now b.now

inserted_by : (name : List ℕ) (key first : Bor (List ℕ)) (rest : List (Bor (List ℕ))) (o : Ordering) → slice_cmp nat_cmp key.now first.now ≡ o
    → has_name (bytes_of (insert_key by_bytes rest key)) name ≡ (bytes_eq name key.now || has_name (bytes_of rest) name)
    → has_name (bytes_of (match_ordering o (key ∷ first ∷ rest) (first ∷ rest) (first ∷ insert_key by_bytes rest key))) name
    ≡ (bytes_eq name key.now || (bytes_eq name first.now || has_name (bytes_of rest) name))
inserted_by name key first rest Less e h = refl
inserted_by name key first rest Equal e h = or_again (bytes_eq name key.now) (bytes_eq name first.now) (has_name (bytes_of rest) name) (ap (bytes_eq name) (exact_bytes key.now first.now e))
inserted_by name key first rest Greater e h =
    ap (λ (b : Bool). bytes_eq name first.now || b) h ∙ or_swapped (bytes_eq name key.now) (bytes_eq name first.now) (has_name (bytes_of rest) name)

inserted : (name : List ℕ) (key : Bor (List ℕ)) (keys : List (Bor (List ℕ))) → has_name (bytes_of (insert_key by_bytes keys key)) name ≡ (bytes_eq name key.now || has_name (bytes_of keys) name)
inserted name key [] = refl
inserted name key (first ∷ rest) = inserted_by name key first rest (slice_cmp nat_cmp key.now first.now) refl (inserted name key rest)

-- ---- a walk over the names

-- one name more
has_name-more : (name key : List ℕ) (names : List (List ℕ)) (i : ℕ) → slice_get names i ≡ Some key → has_name (take (suc i) names) name ≡ (bytes_eq name key || has_name (take i names) name)
has_name-more name key [] i h = absurd (none-some _ h)
has_name-more name key (first ∷ rest) zero h = let e : first ≡ key = cc in ap (λ (n : List ℕ). bytes_eq name n || false) e
has_name-more name key (first ∷ rest) (suc i) h =
    ap (λ (b : Bool). bytes_eq name first || b) (has_name-more name key rest i h) ∙ or_swapped (bytes_eq name key) (bytes_eq name first) (has_name (take i rest) name)

-- past the last
take-past : (names : List (List ℕ)) (i : ℕ) → slice_get names i ≡ None → take i names ≡ names
take-past [] zero h = refl
take-past [] (suc i) h = refl
take-past (first ∷ rest) zero h = absurd (none-some _ (sym h))
take-past (first ∷ rest) (suc i) h = ap (λ (l : List (List ℕ)). first ∷ l) (take-past rest i h)

-- the first i names were put into order
pub record Walked (names : List (List ℕ)) (i : ℕ) (listed : List (Bor (List ℕ))) : Type 0 where
  pub ascending : IsStrictlySortedBy by_bytes listed
  pub same : (name : List ℕ) → has_name (bytes_of listed) name ≡ has_name (take i names) name

pub walk_more : (names : List (List ℕ)) (i : ℕ) (listed : List (Bor (List ℕ))) (key : Bor (List ℕ)) → Walked names i listed → slice_get names i ≡ Some key.now
    → IsStrictlySortedBy by_bytes (insert_key by_bytes listed key) → Walked names (suc i) (insert_key by_bytes listed key)
walk_more names i listed key w at up = record {
  ascending = up;
  same = λ name. inserted name key listed ∙ ap (λ (b : Bool). bytes_eq name key.now || b) (w.same name) ∙ sym (has_name-more name key.now names i at);
}

all_bytes : (key : Bor (List ℕ)) (keys : List (Bor (List ℕ))) → AllByRecursion (λ other. by_bytes key other ≡ Less) keys → AllByRecursion (λ other. slice_cmp nat_cmp key.now other ≡ Less) (bytes_of keys)
all_bytes key [] all = tt
all_bytes key (first ∷ rest) all = (all.0, all_bytes key rest all.1)

ascending_bytes : (keys : List (Bor (List ℕ))) → IsStrictlySortedBy by_bytes keys → AreAscending (bytes_of keys)
unfolding IsStrictlySortedBy
ascending_bytes [] up = tt
ascending_bytes (first ∷ rest) up = (all_bytes first rest up.0, ascending_bytes rest up.1)

pub walk_ends : (names : List (List ℕ)) (i : ℕ) (listed : List (Bor (List ℕ))) → Walked names i listed → slice_get names i ≡ None → Orders names (bytes_of listed)
walk_ends names i listed w past = record {
  ascending = ascending_bytes listed w.ascending;
  same = λ name. w.same name ∙ ap (λ (l : List (List ℕ)). has_name l name) (take-past names i past);
}

-- ---- the names that have a place

found : {V : Type 0} (b : Bool) (value : V) (rest : Option V) (r : Bool) → r ≡ is_some rest → (b || r) ≡ is_some (cond b (Some value) rest)
found true value rest r h = refl
found false value rest r h = h

pub has_name-keys : {V : Type 0} (slots : List (List ℕ × V)) (name : List ℕ) → has_name (keys_of slots) name ≡ is_some (lookup (bytes_eq name) slots)
has_name-keys [] name = refl
has_name-keys (slot ∷ slots) name = found (bytes_eq name slot.0) slot.1 (lookup (bytes_eq name) slots) (has_name (keys_of slots) name) (has_name-keys slots name)

-- ---- one list

as_compared : (name : List ℕ) (names : List (List ℕ)) → list_any (λ (other : List ℕ). is_eq (slice_cmp nat_cmp name other)) names ≡ has_name names name
as_compared name [] = refl
as_compared name (first ∷ rest) = ap (λ (b : Bool). b || list_any (λ (other : List ℕ). is_eq (slice_cmp nat_cmp name other)) rest) (is_eq-slice_cmp name first) ∙ ap (λ (b : Bool). bytes_eq name first || b) (as_compared name rest)

pub one_order : (a b : List (List ℕ)) → AreAscending a → AreAscending b → ((name : List ℕ) → has_name a name ≡ has_name b name) → a ≡ b
one_order a b up other same =
    btree_set_from_contains nat_list_cmp_total (record { keys = a }) (record { keys = b }) up other
    (λ name. as_compared name a ∙ same name ∙ sym (as_compared name b)) exact_bytes
