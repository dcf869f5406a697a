-- The rows as they are filled, name by name.
use Rattle.std.proofs.Common.{◌≡◌, ℕ, zero, suc, ◌+◌, ◌<◌, ◌≤◌, arith, Bool, true, false, cond, ◌||◌, List, [], ◌∷◌, ◌++◌, length, take, Option, Some, None, refl, sym, ap, ◌∙◌}
use Rattle.std.proofs.lemmas.List.{take_more, take_all, length-map}
use Rattle.std.proofs.lemmas.List.Folds.{list_any-append}
use Rattle.std.proofs.lemmas.Map.Text.{is_eq-slice_cmp}
use Rattle.std.proofs.lemmas.Option.{slice_get_within, get_or_from_slice_get}
use Rattle.std.specs.Cmp.Lexicographic.{slice_cmp, nat_list_cmp_total}
use Rattle.std.specs.List.{list_any, slice_get}
use Rattle.std.specs.Map.{keys_of, lookup}
use Rattle.std.specs.Option.{is_some, option_map}
use Rattle.std.specs.Ordering.{nat_cmp, is_eq}
use Rattle.std.specs.Str.{bytes_eq}
use Rattle.chain_names.proofs.Changed.{bytes_eq-true}
use Rattle.chain_names.specs.Coins.{entry_of}
use Rattle.chain_names.specs.Tables.{NameSlots, AreNamesFilled, names_in}
use Rattle.chain_names.specs.declared.coin.Item.{Item}
use Rattle.shared_chunks.specs.Pairs.{value_at, with_pair}
use Rattle.shared_chunks.proofs.Lookups.{value_at-with_pair}
use Rattle.pin_views.specs.Rows.{row_of, row_at, HasRows}
use Rattle.pin_views.specs.declared.rows.Row.{Row}

any_lookup : {K V : Type 0} (test : K → Bool) (es : List (K × V)) → list_any test (keys_of es) ≡ is_some (lookup test es)
any_lookup test [] = refl
any_lookup test (e ∷ es) = elim (test e.0) as (λ b. (b || list_any test (keys_of es)) ≡ is_some (cond b (Some e.1) (lookup test es))) [ true ↦ refl | false ↦ any_lookup test es ]

pub past_end : {X : Type 0} (xs : List X) (i : ℕ) → None ≡ slice_get xs i → length xs ≤ i
past_end [] i e = omega arith
past_end (x ∷ xs) zero e = absurd (cc e)
past_end (x ∷ xs) (suc i) e = omega (arith, past_end xs i e)

pub within_table : (table : NameSlots) (i : ℕ) (name : List ℕ) → Some name ≡ slice_get (keys_of table) i → i < length table
within_table table i name e = omega (arith, slice_get_within (keys_of table) i name (sym e), length-map table (λ e. e.0))

at_one : (a b : Bool) (f : Option Row) (row : Row) → (a ≡ true → f ≡ Some row) → cond a (Some row) (cond b f None) ≡ cond (b || (a || false)) f None
at_one true true f row h = sym (h refl)
at_one true false f row h = sym (h refl)
at_one false true f row h = refl
at_one false false f row h = refl

pub rows_none : (table : NameSlots) → HasRows [] table []
rows_none table = record { row = λ name. refl }

pub rows_more : (names : List (List ℕ)) (table : NameSlots) (rows new : List (List ℕ × Row)) (name : List ℕ) (item : Item)
    → HasRows names table rows → Some item ≡ entry_of (names_in table name) → new ≡ with_pair (slice_cmp nat_cmp) rows name (row_of item) → HasRows (names ++ name ∷ []) table new
rows_more names table rows new name item has there is = record {
  row = λ q.
      let there' : (is_eq (slice_cmp nat_cmp q name) ≡ true) → row_at table q ≡ Some (row_of item) =
      λ (e : is_eq (slice_cmp nat_cmp q name) ≡ true). ap (row_at table) (bytes_eq-true q name (sym (is_eq-slice_cmp q name) ∙ e)) ∙ ap (option_map row_of) (sym there) in
      ap (λ z. value_at (slice_cmp nat_cmp) z q) is
      ∙ value_at-with_pair nat_list_cmp_total rows name (row_of item) q
      ∙ ap (cond (is_eq (slice_cmp nat_cmp q name)) (Some (row_of item))) (has.row q)
      ∙ at_one (is_eq (slice_cmp nat_cmp q name)) (list_any (bytes_eq q) names) (row_at table q) (row_of item) there'
      ∙ ap (λ b. cond (list_any (bytes_eq q) names || (b || false)) (row_at table q) None) (is_eq-slice_cmp q name)
      ∙ ap (λ b. cond b (row_at table q) None) (sym (list_any-append (bytes_eq q) names (name ∷ [])));
}

pub rows_next : (table : NameSlots) (i : ℕ) (rows new : List (List ℕ × Row)) (name : List ℕ) (item : Item)
    → HasRows (take i (keys_of table)) table rows → Some name ≡ slice_get (keys_of table) i → Some item ≡ entry_of (names_in table name)
    → new ≡ with_pair (slice_cmp nat_cmp) rows name (row_of item) → HasRows (take (i + 1) (keys_of table)) table new
rows_next table i rows new name item has here there is =
    let within = slice_get_within (keys_of table) i name (sym here) in
    let found = get_or_from_slice_get (keys_of table) i name name (sym here) in
    let e : take (i + 1) (keys_of table) ≡ take i (keys_of table) ++ name ∷ [] = take_more (keys_of table) i name within ∙ ap (λ z. take i (keys_of table) ++ z ∷ []) found in
    rw e (rows_more (take i (keys_of table)) table rows new name item has there is)

at_entry : (e : Option Item) → cond (is_some e) (option_map row_of e) None ≡ option_map row_of e
at_entry None = refl
at_entry (Some item) = refl

pub rows_all : (table : NameSlots) (i : ℕ) (rows : List (List ℕ × Row)) → AreNamesFilled table → HasRows (take i (keys_of table)) table rows → length (keys_of table) ≤ i
    → (name : List ℕ) → value_at (slice_cmp nat_cmp) rows name ≡ row_at table name
rows_all table i rows filled has past name =
    has.row name
    ∙ ap (λ z. cond (list_any (bytes_eq name) z) (row_at table name) None) (take_all i (keys_of table) past)
    ∙ ap (λ b. cond b (row_at table name) None) (any_lookup (bytes_eq name) table ∙ filled name)
    ∙ at_entry (entry_of (names_in table name))
