-- The rows of a mirror's names.
use Rattle.std.proofs.Common.{◌≡◌, ℕ, zero, suc, ◌+◌, ◌≤◌, arith, Bool, true, false, cond, List, [], ◌∷◌, length, Option, Some, None, refl, sym, ap, ◌∙◌, subst}
use Rattle.std.specs.Prelude.{◌≢◌}
use Rattle.std.proofs.lemmas.Option.{slice_get_past}
use Rattle.std.specs.Cmp.{tied_itself}
use Rattle.std.specs.Cmp.Lexicographic.{slice_cmp, nat_list_cmp_total}
use Rattle.std.specs.List.{AllByRecursion, slice_get}
use Rattle.std.specs.List.Sorted.{IsStrictlySortedBy}
use Rattle.std.specs.Map.{keys_of}
use Rattle.std.specs.Option.{option_map}
use Rattle.std.specs.Ordering.{nat_cmp}
use Rattle.std.specs.declared.cmp.Ordering.TheVariants.{Less, Greater}
use Rattle.nmc_base.specs.declared.chain_ends.Base.{Base}
use Rattle.chain_names.proofs.HistoryLemmas.{entry_has}
use Rattle.chain_names.specs.Coins.{Maps, entry_of, history_of}
use Rattle.chain_names.specs.Log.{Log, log_of}
use Rattle.chain_names.specs.declared.coin.Item.{Item}
use Rattle.shared_chunks.specs.Pairs.{AreInOrder, is_key, value_at}
use Rattle.shared_chunks.proofs.Order.{order_head, order_tail, turned}
use Rattle.shared_chunks.proofs.Places.{value_at-at}
use Rattle.pin_views.proofs.Filling.{past_end}
use Rattle.pin_views.specs.Rows.{row_of}
use Rattle.pin_views.specs.declared.rows.Row.{Row}
use Rattle.sliced_save.specs.Kept.{AreKeptNames, IsKeptItem, IsKeptName}
use Rattle.sliced_save.specs.Mirror.{Mirrored, MirrorsChain, NamePairs, items_at, items_or}
use Rattle.sliced_save.specs.Rows.{AreRowsOf, FitsRow, row_in, rows_of, with_row}

-- ---- the last item of a name

pub last_entry : (items : List Item) (i : ℕ) (item : Item) → i + 1 ≡ length items → slice_get items i ≡ Some item → entry_of items ≡ Some item
last_entry [] i item last e = absurd (cc e)
last_entry (first ∷ []) zero item last e = e
last_entry (first ∷ []) (suc i) item last e = absurd (cc e)
last_entry (first ∷ second ∷ items) zero item last e = absurd (omega (arith, last))
last_entry (first ∷ second ∷ items) (suc i) item last e = last_entry (second ∷ items) i item (omega (arith, last)) e

pub some_length : (items : List Item) → items ≢ [] → 1 ≤ length items
some_length [] some = absurd (some refl)
some_length (item ∷ items) some = omega arith

entry_there : (items : List Item) → items ≢ [] → (item : Item) × (entry_of items ≡ Some item)
entry_there [] some = absurd (some refl)
entry_there (item ∷ []) some = (item, refl)
entry_there (first ∷ second ∷ items) some = entry_there (second ∷ items) (λ e. absurd (cc e))

-- it fits as a row
pub row_fits : (name : List ℕ) (items : List Item) (item : Item) → IsKeptName (name, items) → entry_of items ≡ Some item → FitsRow name (row_of item)
row_fits name items item kept e =
    let one = entry_has IsKeptItem items item kept.items e in
    record { lengths = record { name_length = kept.short; value_length = one.short }; low = one.low }

-- ---- names and rows, side by side

pub count_rows : (names : NamePairs) → AllByRecursion IsKeptName names → length (rows_of names) ≡ length names
count_rows [] kept = refl
count_rows (pair ∷ names) kept =
    ap (λ (e : Option Item). length (with_row pair.0 e (rows_of names))) (entry_there pair.1 kept.0.some).1 ∙ ap suc (count_rows names kept.1)

pub row_at : (names : NamePairs) (i : ℕ) (pair : List ℕ × List Item) (item : Item) → AllByRecursion IsKeptName names → slice_get names i ≡ Some pair → entry_of pair.1 ≡ Some item
    → slice_get (rows_of names) i ≡ Some (pair.0, row_of item)
row_at [] i pair item kept e last = absurd (cc e)
row_at (first ∷ names) zero pair item kept e last =
    let same : first ≡ pair = cc e in
    ap (λ (it : Option Item). slice_get (with_row first.0 it (rows_of names)) 0) (ap (λ (p : List ℕ × List Item). entry_of p.1) same ∙ last)
    ∙ ap (λ (p : List ℕ × List Item). Some (p.0, row_of item)) same
row_at (first ∷ names) (suc i) pair item kept e last =
    ap (λ (it : Option Item). slice_get (with_row first.0 it (rows_of names)) (suc i)) (entry_there first.1 kept.0.some).1 ∙ row_at names i pair item kept.1 e last

pub no_row : (names : NamePairs) (i : ℕ) → AllByRecursion IsKeptName names → slice_get names i ≡ None → slice_get (rows_of names) i ≡ None
no_row names i kept e = slice_get_past (rows_of names) i (omega (arith, count_rows names kept, past_end names i (sym e)))

same_keys : (names : NamePairs) → AllByRecursion IsKeptName names → keys_of (rows_of names) ≡ keys_of names
same_keys [] kept = refl
same_keys (pair ∷ names) kept =
    ap (λ (e : Option Item). keys_of (with_row pair.0 e (rows_of names))) (entry_there pair.1 kept.0.some).1 ∙ ap (λ (keys : List (List ℕ)). pair.0 ∷ keys) (same_keys names kept.1)

-- the first of them has the name, or another has it
either_row : (b : Bool) (item : Item) (items : List Item) (row : Option Row) (others : Option (List Item)) → entry_of items ≡ Some item → row ≡ option_map row_of (entry_of (items_or others))
    → cond b (Some (row_of item)) row ≡ option_map row_of (entry_of (items_or (cond b (Some items) others)))
either_row true item items row others is rest = sym (ap (option_map row_of) is)
either_row false item items row others is rest = rest

row_found : (names : NamePairs) (name : List ℕ) → AllByRecursion IsKeptName names → row_in (rows_of names) name ≡ option_map row_of (entry_of (items_at names name))
row_found [] name kept = refl
row_found (pair ∷ names) name kept =
    let one = entry_there pair.1 kept.0.some in
    ap (λ (e : Option Item). row_in (with_row pair.0 e (rows_of names)) name) one.1
    ∙ either_row (is_key (slice_cmp nat_cmp) name pair.0) one.0 pair.1 (row_in (rows_of names) name) (value_at (slice_cmp nat_cmp) names name) one.1 (row_found names name kept.1)

-- so the rows are those of the names
pub rows_are : (names : NamePairs) → AreKeptNames names → AreRowsOf (items_at names) (rows_of names)
rows_are names kept = record {
  order = subst (IsStrictlySortedBy (slice_cmp nat_cmp)) (sym (same_keys names kept.each)) kept.order;
  row = λ name. row_found names name kept.each;
}

-- and of the chain's names, where the mirror is the chain's
pub chain_rows : (base : Base) (start : Log) (blocks : List (List ℕ)) (m : Mirrored) (rows : List (List ℕ × Row)) → AreRowsOf (items_at m.names) rows → MirrorsChain base start blocks m
    → AreRowsOf (history_of (log_of start base.height blocks)) rows
chain_rows base start blocks m rows are mirrors = subst (λ (h : List ℕ → List Item). AreRowsOf h rows) (ap (λ (maps : Maps). maps.names) mirrors.is.maps_are) are

-- ---- the row at a place

all_at : {X V : Type 0} (P : X → Type 0) (pairs : List (X × V)) (i : ℕ) (p : X × V) → AllByRecursion P (keys_of pairs) → slice_get pairs i ≡ Some p → P p.0
all_at P [] i p all e = absurd (cc e)
all_at P (q ∷ pairs) zero p all e =
    let same : q ≡ p = cc e in
    subst (λ z. P z.0) same all.0
all_at P (q ∷ pairs) (suc i) p all e = all_at P pairs i p all.1 e

pub found_at : (rows : List (List ℕ × Row)) (i : ℕ) (p : List ℕ × Row) → AreInOrder (slice_cmp nat_cmp) rows → slice_get rows i ≡ Some p → row_in rows p.0 ≡ Some p.1
found_at [] i p order e = absurd (cc e)
found_at (q ∷ rows) zero p order e =
    let same : q ≡ p = cc e in
    subst (λ (z : List ℕ × Row). row_in (q ∷ rows) z.0 ≡ Some z.1) same (value_at-at (slice_cmp nat_cmp) q.0 [] q rows tt (tied_itself nat_list_cmp_total q.0))
found_at (q ∷ rows) (suc i) p order e =
    let below : slice_cmp nat_cmp q.0 p.0 ≡ Less = all_at (λ y. slice_cmp nat_cmp q.0 y ≡ Less) rows i p (order_head (slice_cmp nat_cmp) q rows order) e in
    let above : slice_cmp nat_cmp p.0 q.0 ≡ Greater = turned nat_list_cmp_total q.0 p.0 Less below in
    rw above (found_at rows i p (order_tail (slice_cmp nat_cmp) q rows order) e)
