-- What waits to be let go of, and how much of it goes.
use Rattle.std.proofs.Common.{◌≡◌, ℕ, zero, suc, ◌+◌, ◌-◌, ◌<◌, ◌≤◌, Bool, true, false, List, [], ◌∷◌, ◌++◌, length, inl, inr, sym, ap, ◌∙◌, arith}
use Rattle.std.specs.Prelude.{◌⊎◌, nat_eq}
use Rattle.std.proofs.lemmas.Bool.{cases_lt, eqb-true}
use Rattle.name_lister.specs.Leavings.{LetsSomeGo, parts_of, total}
use Rattle.name_lister.specs.declared.leavings.Leaving.{Leaving}

pub total_behind : (waiting : List Leaving) (leaving : Leaving) → total (waiting ++ leaving ∷ []) ≡ total waiting + suc (parts_of leaving)
total_behind [] leaving = omega arith
total_behind (first ∷ waiting) leaving = omega (arith, total_behind waiting leaving)

-- the last goes, or loses four of its parts
module _ (old rest : List Leaving) (leaving : Leaving) (old_is : old ≡ rest ++ leaving ∷ []) where
  pub last_goes : parts_of leaving ≤ 4 → LetsSomeGo old rest
  last_goes few =
      let sum = ap total old_is in
      record { few = omega (arith, few, sum, total_behind rest leaving); fewer = λ some. omega (arith, sum, total_behind rest leaving) }

  pub last_shrinks : (left : Leaving) (new : List Leaving) → 0 < parts_of left → parts_of left ≡ parts_of leaving - 4 → new ≡ rest ++ left ∷ [] → LetsSomeGo old new
  last_shrinks left new some left_is new_is =
      let was = ap total old_is in
      let is = ap total new_is in
      record {
        few = omega (arith, some, left_is, was, is, total_behind rest leaving, total_behind rest left);
        fewer = λ _. omega (arith, some, left_is, was, is, total_behind rest leaving, total_behind rest left);
      }

-- a map more waits, or there was no room for it
module _ (old new : List Leaving) (leaving : Leaving) where
  pub total_grows : (length old < 16 → new ≡ old ++ leaving ∷ []) → (16 ≤ length old → new ≡ old) → total old ≤ total new
  total_grows room full = by (cases_lt (length old) 16) where
    by : (length old < 16) ⊎ (16 ≤ length old) → total old ≤ total new
    by (inl few) = omega (arith, ap total (room few), total_behind old leaving)
    by (inr many) = omega (arith, ap total (full many))

-- ---- whether parts are left

module _ (parts left : ℕ) (done : Bool) (left_is : left ≡ parts - 4) (done_is : done ≡ nat_eq left 0) where
  pub none_left : done ≡ true → parts ≤ 4
  none_left is_done = omega (arith, left_is, eqb-true left 0 (sym done_is ∙ is_done))

  pub some_left : done ≡ false → 0 < left
  some_left is_not = positive left (sym done_is ∙ is_not) where
    positive : (n : ℕ) → nat_eq n 0 ≡ false → 0 < n
    positive zero same = absurd (cc same)
    positive (suc n) differs = omega arith
