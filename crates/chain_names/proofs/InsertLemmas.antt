-- A held coin is put in its place among those in order.
use Rattle.std.proofs.Common.{◌≡◌, true, false, List, [], ◌∷◌, refl, sym, ap, ◌∙◌}
use Rattle.std.specs.List.{AllByRecursion, list_any}
use Rattle.std.specs.List.Sorted.{IsStrictlySortedBy}
use Rattle.std.specs.Ordering.{ordering_reverse, is_eq}
use Rattle.std.specs.declared.cmp.Ordering.{Ordering}
use Rattle.std.specs.declared.cmp.Ordering.TheVariants.{Less, Equal, Greater}
use Rattle.std.proofs.lemmas.Map.Keys.{sorted_head, sorted_tail}
use Rattle.std.proofs.lemmas.Bool.{or_left, or_right}
use Rattle.nmc_base.specs.declared.hashes.OutPoint.{OutPoint}
use Rattle.nmc_base.specs.Hash.{outpoint_cmp}
use Rattle.nmc_base.proofs.TruthLemmas.{or_more}
use Rattle.chain_names.specs.declared.coin.HeldCoin.{HeldCoin}
use Rattle.chain_names.specs.Points.{same_point}
use Rattle.chain_names.proofs.Shown.{true_is_not_false}
use Rattle.chain_names.proofs.Points.{same_point-self, same_point-comm}
use Rattle.chain_names.specs.Expired.{points_of, IsSortedByPoint, is_held_at}
use Rattle.chain_names.proofs.PointLemmas.{all-points, all-coins}
use Rattle.chain_names.proofs.OrderLemmas.{outpoint_cmp-total, IsAbove, same_by_cmp}

abbrev placed : HeldCoin → HeldCoin → List HeldCoin → List HeldCoin → Ordering → List HeldCoin
placed held first rest more Less = held ∷ first ∷ rest
placed held first rest more Equal = first ∷ rest
placed held first rest more Greater = first ∷ more

abbrev pub insert_held : HeldCoin → List HeldCoin → List HeldCoin
insert_held held [] = held ∷ []
insert_held held (first ∷ rest) = placed held first rest (insert_held held rest) (outpoint_cmp held.at first.at)

-- what holds of it and of the others holds of all
placed_all : (P : HeldCoin → Type 0) (held first : HeldCoin) (rest more : List HeldCoin) (o : Ordering) → P held → P first → AllByRecursion P rest → AllByRecursion P more
    → AllByRecursion P (placed held first rest more o)
placed_all P held first rest more Less here one all later = (here, (one, all))
placed_all P held first rest more Equal here one all later = (one, all)
placed_all P held first rest more Greater here one all later = (one, later)

pub insert_all : (P : HeldCoin → Type 0) (held : HeldCoin) (helds : List HeldCoin) → P held → AllByRecursion P helds → AllByRecursion P (insert_held held helds)
insert_all P held [] here all = (here, tt)
insert_all P held (first ∷ rest) here all =
    placed_all P held first rest (insert_held held rest) (outpoint_cmp held.at first.at) here all.0 all.1 (insert_all P held rest here all.1)

all_higher : (p q : OutPoint) (points : List OutPoint) → IsAbove p q → AllByRecursion (IsAbove q) points → AllByRecursion (IsAbove p) points
all_higher p q [] above all = tt
all_higher p q (r ∷ points) above all = (outpoint_cmp-total.trans p q r above all.0, all_higher p q points above all.1)

sorted_cons : (point : OutPoint) (points : List OutPoint) → AllByRecursion (IsAbove point) points → IsStrictlySortedBy outpoint_cmp points → IsStrictlySortedBy outpoint_cmp (point ∷ points)
unfolding IsStrictlySortedBy
sorted_cons point points above sorted = (above, sorted)

pub sorted_nil : IsStrictlySortedBy outpoint_cmp []
unfolding IsStrictlySortedBy
sorted_nil = tt

-- one below the first
sorted_more : (p q : OutPoint) (points : List OutPoint) → IsAbove p q → IsStrictlySortedBy outpoint_cmp (q ∷ points) → IsStrictlySortedBy outpoint_cmp (p ∷ q ∷ points)
sorted_more p q points above sorted = sorted_cons p (q ∷ points) (above, all_higher p q points above (sorted_head outpoint_cmp q points sorted)) sorted

placed_sorted : (held first : HeldCoin) (rest : List HeldCoin) (o : Ordering) → outpoint_cmp held.at first.at ≡ o → IsSortedByPoint (first ∷ rest)
    → IsSortedByPoint (insert_held held rest) → IsSortedByPoint (placed held first rest (insert_held held rest) o)
placed_sorted held first rest Less is sorted later = sorted_more held.at first.at (points_of rest) is sorted
placed_sorted held first rest Equal is sorted later = sorted
placed_sorted held first rest Greater is sorted later =
    sorted_cons first.at (points_of (insert_held held rest))
    (all-points (IsAbove first.at) (insert_held held rest)
    (insert_all (λ h. IsAbove first.at h.at) held rest (outpoint_cmp-total.antisymm first.at held.at ∙ ap ordering_reverse is)
    (all-coins (IsAbove first.at) rest (sorted_head outpoint_cmp first.at (points_of rest) sorted)))) later

pub insert_sorted : (held : HeldCoin) (helds : List HeldCoin) → IsSortedByPoint helds → IsSortedByPoint (insert_held held helds)
insert_sorted held [] sorted = sorted_cons held.at [] tt sorted_nil
insert_sorted held (first ∷ rest) sorted =
    placed_sorted held first rest (outpoint_cmp held.at first.at) refl sorted (insert_sorted held rest (sorted_tail outpoint_cmp first.at (points_of rest) sorted))

-- ---- its outpoint is listed, and the others still are

abbrev pub IsListed : OutPoint → List HeldCoin → Type 0
IsListed point helds = list_any (is_held_at point) helds ≡ true

placed_here : (held first : HeldCoin) (rest more : List HeldCoin) (o : Ordering) → outpoint_cmp held.at first.at ≡ o → IsListed held.at more
    → IsListed held.at (placed held first rest more o)
placed_here held first rest more Less is later = or_left (same_point held.at held.at) (list_any (is_held_at held.at) (first ∷ rest)) (same_point-self held.at)
placed_here held first rest more Equal is later =
    or_left (same_point first.at held.at) (list_any (is_held_at held.at) rest) (same_point-comm first.at held.at ∙ sym (same_by_cmp held.at first.at) ∙ ap is_eq is)
placed_here held first rest more Greater is later = or_right (same_point first.at held.at) (list_any (is_held_at held.at) more) later

pub insert_here : (held : HeldCoin) (helds : List HeldCoin) → IsListed held.at (insert_held held helds)
insert_here held [] = or_left (same_point held.at held.at) false (same_point-self held.at)
insert_here held (first ∷ rest) = placed_here held first rest (insert_held held rest) (outpoint_cmp held.at first.at) refl (insert_here held rest)

placed_there : (held first : HeldCoin) (rest more : List HeldCoin) (point : OutPoint) (o : Ordering) → (IsListed point rest → IsListed point more) → IsListed point (first ∷ rest)
    → IsListed point (placed held first rest more o)
placed_there held first rest more point Less later e = or_right (same_point held.at point) (list_any (is_held_at point) (first ∷ rest)) e
placed_there held first rest more point Equal later e = e
placed_there held first rest more point Greater later e =
    or_more (same_point first.at point) (list_any (is_held_at point) rest) (list_any (is_held_at point) more) later e

pub insert_there : (held : HeldCoin) (helds : List HeldCoin) (point : OutPoint) → IsListed point helds → IsListed point (insert_held held helds)
insert_there held [] point e = absurd (true_is_not_false (sym e))
insert_there held (first ∷ rest) point e =
    placed_there held first rest (insert_held held rest) point (outpoint_cmp held.at first.at) (insert_there held rest point) e
