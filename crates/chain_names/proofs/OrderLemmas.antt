-- Lists of held coins in the order of their outpoints.
use Rattle.std.proofs.Common.{◌≡◌, ℕ, suc, ◌≤◌, Bool, true, false, List, [], ◌∷◌, length, refl, sym, ap, subst, ◌∙◌, arith}
use Rattle.std.specs.Prelude.{◌||◌, ◌&&◌, ◌==◌}
use Rattle.std.specs.Cmp.{IsTotalOrder, tied_then}
use Rattle.std.specs.Cmp.Lexicographic.{slice_cmp}
use Rattle.std.specs.List.{AllByRecursion, list_any}
use Rattle.std.specs.declared.cmp.Ordering.TheVariants.{Less}
use Rattle.std.specs.Ordering.{nat_cmp, is_eq, eq_by_cmp}
use Rattle.std.specs.Set.{is_member}
use Rattle.std.specs.Str.{bytes_eq}
use Rattle.std.proofs.lemmas.Cmp.{nat_cmp_total, nat_list_cmp_total, on_total, then_total, eq_by_cmp_equiv}
use Rattle.std.proofs.lemmas.Bool.Decides.{nat_tests}
use Rattle.std.proofs.lemmas.Map.Keys.{IsDistinct-from_sorted}
use Rattle.std.proofs.lemmas.Map.Made.{length-le_from_is_member}
use Rattle.std.proofs.lemmas.Map.Text.{is_eq-slice_cmp}
use Rattle.nmc_base.specs.declared.hashes.OutPoint.{OutPoint}
use Rattle.nmc_base.specs.Hash.{outpoint_cmp}
use Rattle.chain_names.specs.declared.coin.HeldCoin.{HeldCoin}
use Rattle.chain_names.specs.Points.{same_point}
use Rattle.chain_names.proofs.Shown.{true_is_not_false}
use Rattle.chain_names.proofs.Points.{same_point-true}
use Rattle.chain_names.specs.Expired.{points_of, IsSortedByPoint}

pub outpoint_cmp-total : IsTotalOrder outpoint_cmp
outpoint_cmp-total =
    then_total (on_total (λ (p : OutPoint). p.txid.0) nat_list_cmp_total) (on_total (λ (p : OutPoint). p.index) nat_cmp_total)

abbrev pub IsAbove : OutPoint → OutPoint → Type 0
IsAbove p q = outpoint_cmp p q ≡ Less

is_eq-nat_cmp : (a b : ℕ) → is_eq (nat_cmp a b) ≡ (a == b)
is_eq-nat_cmp a b = grind (arith, nat_tests)

-- outpoints that are ordered alike are the same
pub same_by_cmp : (a b : OutPoint) → eq_by_cmp outpoint_cmp a b ≡ same_point a b
same_by_cmp a b =
    sym (tied_then (slice_cmp nat_cmp a.txid.0 b.txid.0) (nat_cmp a.index b.index))
    ∙ ap (λ x. x && is_eq (nat_cmp a.index b.index)) (is_eq-slice_cmp a.txid.0 b.txid.0)
    ∙ ap (λ x. bytes_eq a.txid.0 b.txid.0 && x) (is_eq-nat_cmp a.index b.index)

length-points_of : (helds : List HeldCoin) → length (points_of helds) ≡ length helds
length-points_of [] = refl
length-points_of (held ∷ helds) = ap suc (length-points_of helds)

member_listed : (P : OutPoint → Type 0) (points : List OutPoint) (q : OutPoint) → AllByRecursion P points → is_member (eq_by_cmp outpoint_cmp) points q ≡ true → P q
member_listed P [] q all e = absurd (true_is_not_false (sym e))
member_listed P (p ∷ points) q all e = by (eq_by_cmp outpoint_cmp q p) refl e (member_listed P points q all.1)
  where
    by : (b : Bool) → eq_by_cmp outpoint_cmp q p ≡ b → (b || list_any (eq_by_cmp outpoint_cmp q) points) ≡ true
        → (is_member (eq_by_cmp outpoint_cmp) points q ≡ true → P q) → P q
    by true is e' later = subst P (sym (same_point-true q p (sym (same_by_cmp q p) ∙ is))) all.0
    by false is e' later = later e'

any-same : (A : Type 0) (f g : A → Bool) (xs : List A) → ((x : A) → f x ≡ g x) → list_any f xs ≡ list_any g xs
any-same A f g [] same = refl
any-same A f g (x ∷ xs) same = ap (λ b. b || list_any f xs) (same x) ∙ ap (λ b. g x || b) (any-same A f g xs same)

-- coins in order that are all at listed points are no more than these
pub sorted_few : (helds : List HeldCoin) (points : List OutPoint) → IsSortedByPoint helds
    → AllByRecursion (λ point. list_any (same_point point) points ≡ true) (points_of helds) → length helds ≤ length points
sorted_few helds points sorted all =
    subst (λ n. n ≤ length points) (length-points_of helds)
    (length-le_from_is_member (eq_by_cmp_equiv outpoint_cmp-total) (points_of helds) points (IsDistinct-from_sorted outpoint_cmp (points_of helds) sorted)
    (λ q member. any-same OutPoint (eq_by_cmp outpoint_cmp q) (same_point q) points (same_by_cmp q)
    ∙ member_listed (λ point. list_any (same_point point) points ≡ true) (points_of helds) q all member))
