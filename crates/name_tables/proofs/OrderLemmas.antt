-- Outpoints in their order, each once.
use Rattle.std.proofs.Common.{◌≡◌, ◌&&◌, ◌==◌, cond, List, [], ◌∷◌, ◌++◌, refl, sym, ap, subst, ◌∙◌, arith}
use Rattle.std.proofs.lemmas.Bool.Decides.{nat_tests}
use Rattle.std.proofs.lemmas.Cmp.{then_total, on_total, nat_cmp_total, nat_list_cmp_total, eq_by_cmp_equiv}
use Rattle.std.proofs.lemmas.List.Kept.{IsStrictlySortedBy-dedup}
use Rattle.std.proofs.lemmas.Map.Text.{is_eq-slice_cmp}
use Rattle.std.specs.Cmp.{IsTotalOrder, IsEquivalence, tied_then}
use Rattle.std.specs.Cmp.Lexicographic.{slice_cmp}
use Rattle.std.specs.List.{dedup_from, IsDistinct, AllByRecursion}
use Rattle.std.specs.List.Sorted.{IsSorted, IsStrictlySortedBy}
use Rattle.std.specs.Ordering.{eq_by_cmp, nat_cmp, is_eq}
use Rattle.nmc_base.specs.Hash.{outpoint_cmp}
use Rattle.nmc_base.specs.declared.hashes.OutPoint.{OutPoint}
use Rattle.chain_names.specs.Points.{same_point}
use Rattle.chain_names.proofs.Points.{same_point-comm}

pub outpoint_cmp-IsTotalOrder : IsTotalOrder outpoint_cmp
outpoint_cmp-IsTotalOrder = then_total (on_total (λ (p : OutPoint). p.txid.0) nat_list_cmp_total) (on_total (λ (p : OutPoint). p.index) nat_cmp_total)

same_index : (a b : OutPoint) → is_eq (nat_cmp a.index b.index) ≡ (a.index == b.index)
same_index a b = grind (arith, nat_tests)

pub same_point-is : (a b : OutPoint) → same_point a b ≡ eq_by_cmp outpoint_cmp a b
same_point-is a b =
    sym (ap (λ x. x && (a.index == b.index)) (is_eq-slice_cmp a.txid.0 b.txid.0))
    ∙ sym (ap (λ x. is_eq (slice_cmp nat_cmp a.txid.0 b.txid.0) && x) (same_index a b))
    ∙ tied_then (slice_cmp nat_cmp a.txid.0 b.txid.0) (nat_cmp a.index b.index)

pub same_point-IsEquivalence : IsEquivalence same_point
same_point-IsEquivalence =
    let o = eq_by_cmp_equiv outpoint_cmp-IsTotalOrder in record {
      refl = λ x. same_point-is x x ∙ o.refl x;
      symm = λ x y. same_point-is x y ∙ o.symm x y ∙ sym (same_point-is y x);
      congr = λ x y z e. sym (sym (same_point-is x z)) ∙ o.congr x y z (sym (same_point-is x y) ∙ e) ∙ sym (same_point-is y z);
    }

kept : (k : OutPoint) (xs : List OutPoint) → IsDistinct same_point (k ∷ xs) → dedup_from same_point k xs ≡ k ∷ xs
unfolding IsDistinct
kept k [] d = refl
kept k (x ∷ xs) d =
    ap (λ b. cond b (dedup_from same_point k xs) (k ∷ dedup_from same_point x xs)) (same_point-comm x k ∙ d.0.0)
    ∙ ap (λ l. k ∷ l) (kept x xs d.1)

-- outpoints that are sorted and differ rise
pub rising : (xs : List OutPoint) → IsSorted outpoint_cmp xs → IsDistinct same_point xs → IsStrictlySortedBy outpoint_cmp xs
unfolding IsStrictlySortedBy
rising [] s d = tt
rising (x ∷ xs) s d = subst (IsStrictlySortedBy outpoint_cmp) (kept x xs d) (IsStrictlySortedBy-dedup outpoint_cmp-IsTotalOrder same_point-is (x ∷ xs) s)

-- one in the middle may be left out
all_but : (P : OutPoint → Type 0) (xs ys : List OutPoint) (y : OutPoint) → AllByRecursion P (xs ++ y ∷ ys) → AllByRecursion P (xs ++ ys)
all_but P [] ys y all = all.1
all_but P (x ∷ xs) ys y all = (all.0, all_but P xs ys y all.1)

pub rising_but : (xs ys : List OutPoint) (y : OutPoint) → IsStrictlySortedBy outpoint_cmp (xs ++ y ∷ ys) → IsStrictlySortedBy outpoint_cmp (xs ++ ys)
unfolding IsStrictlySortedBy
rising_but [] ys y r = r.1
rising_but (x ∷ xs) ys y r = (all_but _ xs ys y r.0, rising_but xs ys y r.1)
