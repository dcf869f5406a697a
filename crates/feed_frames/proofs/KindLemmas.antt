-- The table of kinds, row by row.
use Rattle.std.proofs.Common.{◌≡◌, ◌⊎◌, ◌↔◌, inl, inr, ℕ, ◌≤◌, Bool, true, false, ◌||◌, ◌&&◌, ◌==◌, List, [], ◌∷◌, refl, sym, arith, rules}
use Rattle.std.specs.List.{list_any, AllByRecursion}
use Rattle.std.proofs.Math.Dec.{leb}
use Rattle.std.proofs.lemmas.Bool.{eqb-true, eq-eqb, leb-true, le-leb, both_ways, cases_Bool, cases_lt, and_parts}
use Rattle.feed_frames.specs.declared.kinds.Kind.{Kind}
use Rattle.feed_frames.specs.declared.kinds.TheConstants.{KINDS, LONGEST_PAYLOAD}
use Rattle.feed_frames.specs.Kinds.{HasRow, IsOfKind, Allows, IsKind, IsLength, is_of_kind, allows}

-- ---- a test of a row, and the fact that it tests

pub record Tests (test : Kind → Bool) (IsSo : Kind → Type 0) : Type 0 where
  pub sound : (row : Kind) → test row ≡ true → IsSo row
  pub whole : (row : Kind) → IsSo row → test row ≡ true

row_or_later : (test : Kind → Bool) (IsSo : Kind → Type 0) (row : Kind) (rows : List Kind) → Tests test IsSo → (test row || list_any test rows) ≡ true
    → (list_any test rows ≡ true → HasRow IsSo rows) → (test row ≡ true) ⊎ (test row ≡ false) → IsSo row ⊎ HasRow IsSo rows
row_or_later test IsSo row rows t either later (inl here) = inl (t.sound row here)
row_or_later test IsSo row rows t either later (inr not_here) = inr (later (rw not_here at either))

has_row : (test : Kind → Bool) (IsSo : Kind → Type 0) (rows : List Kind) → Tests test IsSo → list_any test rows ≡ true → HasRow IsSo rows
has_row test IsSo [] t h = absurd (both_ways false refl h)
has_row test IsSo (row ∷ rows) t h = row_or_later test IsSo row rows t h (has_row test IsSo rows t) (cases_Bool (test row))

row_is_found : (test : Kind → Bool) (IsSo : Kind → Type 0) (rows : List Kind) → Tests test IsSo → HasRow IsSo rows → list_any test rows ≡ true
row_is_found test IsSo [] t h = absurd h
row_is_found test IsSo (row ∷ rows) t (inl here) = rw (t.whole row here) refl
row_is_found test IsSo (row ∷ rows) t (inr later) = rw (row_is_found test IsSo rows t later) (search (arith))

-- the test answers whether a row has the fact
pub any_row : (test : Kind → Bool) (IsSo : Kind → Type 0) (rows : List Kind) → Tests test IsSo → (list_any test rows ≡ true) ↔ HasRow IsSo rows
any_row test IsSo rows t = (has_row test IsSo rows t, row_is_found test IsSo rows t)

-- the rows have the fact or they don't
decided : (test : Kind → Bool) (IsSo : Kind → Type 0) (rows : List Kind) → Tests test IsSo → (list_any test rows ≡ true) ⊎ (list_any test rows ≡ false) → HasRow IsSo rows ⊎ (HasRow IsSo rows → ⊥)
decided test IsSo rows t (inl found) = inl (has_row test IsSo rows t found)
decided test IsSo rows t (inr none) = inr (λ h. both_ways (list_any test rows) none (row_is_found test IsSo rows t h))

-- ---- the two facts of a row

pub tests_kind : (kind : ℕ) → Tests (is_of_kind kind) (IsOfKind kind)
tests_kind kind = record {
  sound = λ row h. sym (eqb-true row.byte kind h);
  whole = λ row h. eq-eqb row.byte kind (sym h);
}

pub tests_allows : (kind n : ℕ) → Tests (allows kind n) (Allows kind n)
tests_allows kind n = record {
  sound = λ row h.
      let first = and_parts (row.byte == kind) (leb row.least n && leb n row.greatest) h in
      let second = and_parts (leb row.least n) (leb n row.greatest) first.1 in
      record { of_kind = sym (eqb-true row.byte kind first.0); no_shorter = leb-true row.least n second.0; no_longer = leb-true n row.greatest second.1 };
  whole = λ row h. rw (eq-eqb row.byte kind (sym h.of_kind), le-leb row.least n h.no_shorter, le-leb n row.greatest h.no_longer) refl;
}

-- the number is no greater, or it is
at_most_or_not : (kind kinds : ℕ) → (kind ≤ kinds) ⊎ (kind ≤ kinds → ⊥)
at_most_or_not kind kinds = elim (cases_lt kinds kind) [ inl above ↦ inr (λ within. omega (arith, within, above)) | inr within ↦ inl within ]

both_or_not : {A B : Type 0} → A ⊎ (A → ⊥) → B ⊎ (B → ⊥) → (A × B) ⊎ (A × B → ⊥)
both_or_not (inl a) (inl b) = inl (a, b)
both_or_not (inl a) (inr none) = inr (λ both. none both.1)
both_or_not (inr none) second = inr (λ both. none both.0)

pub kind_or_not : (kinds kind : ℕ) → IsKind kinds kind ⊎ (IsKind kinds kind → ⊥)
kind_or_not kinds kind = both_or_not (at_most_or_not kind kinds) (decided (is_of_kind kind) (IsOfKind kind) KINDS (tests_kind kind) (cases_Bool (list_any (is_of_kind kind) KINDS)))

pub length_or_not : (kinds kind n : ℕ) → IsLength kinds kind n ⊎ (IsLength kinds kind n → ⊥)
length_or_not kinds kind n = both_or_not (at_most_or_not kind kinds) (decided (allows kind n) (Allows kind n) KINDS (tests_allows kind n) (cases_Bool (list_any (allows kind n) KINDS)))

-- ---- what a length tells

known_row : (kind n : ℕ) (rows : List Kind) → HasRow (Allows kind n) rows → HasRow (IsOfKind kind) rows
known_row kind n [] h = absurd h
known_row kind n (row ∷ rows) (inl here) = inl here.of_kind
known_row kind n (row ∷ rows) (inr later) = inr (known_row kind n rows later)

-- only the lengths of a kind are allowed
pub known : (kinds kind n : ℕ) → IsLength kinds kind n → IsKind kinds kind
known kinds kind n h = (h.0, known_row kind n KINDS h.1)

short_row : (kind n most : ℕ) (rows : List Kind) → AllByRecursion (λ row. row.greatest ≤ most) rows → HasRow (Allows kind n) rows → n ≤ most
short_row kind n most [] all h = absurd h
short_row kind n most (row ∷ rows) all (inl here) = omega (arith, here.no_longer, all.0)
short_row kind n most (row ∷ rows) all (inr later) = short_row kind n most rows all.1 later

all_rows_are_short : AllByRecursion (λ row. row.greatest ≤ LONGEST_PAYLOAD) KINDS
all_rows_are_short = search rules

pub short : (kinds kind n : ℕ) → IsLength kinds kind n → n ≤ LONGEST_PAYLOAD
short kinds kind n h = short_row kind n LONGEST_PAYLOAD KINDS all_rows_are_short h.1
