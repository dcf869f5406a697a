-- A chain has one list of undo records.
use Rattle.std.proofs.Common.{◌≡◌, ℕ, Bool, true, false, List, [], ◌∷◌, refl, sym, ap, subst, ◌∙◌}
use Rattle.std.specs.Prelude.{Option, Some, ◌||◌}
use Rattle.std.specs.List.{AllByRecursion, list_any}
use Rattle.std.specs.List.Sorted.{IsStrictlySortedBy}
use Rattle.std.specs.Ordering.{ordering_reverse, is_eq}
use Rattle.std.specs.declared.cmp.Ordering.{Ordering}
use Rattle.std.specs.declared.cmp.Ordering.TheVariants.{Less, Equal, Greater}
use Rattle.std.proofs.lemmas.Cmp.{tied_itself}
use Rattle.std.proofs.lemmas.Map.Keys.{sorted_head, sorted_tail}
use Rattle.block_grammar.specs.Transaction.{Transaction}
use Rattle.nmc_base.specs.declared.chain_ends.Profile.{Profile}
use Rattle.nmc_base.specs.declared.hashes.OutPoint.{OutPoint}
use Rattle.nmc_base.specs.Hash.{outpoint_cmp}
use Rattle.nmc_base.proofs.TruthLemmas.{same_truth}
use Rattle.nmc_base.proofs.ListLemmas.{all-weaker}
use Rattle.chain_names.specs.declared.coin.Coin.{Coin}
use Rattle.chain_names.specs.declared.coin.HeldCoin.{HeldCoin}
use Rattle.chain_names.specs.Points.{same_point}
use Rattle.chain_names.specs.Log.{Log}
use Rattle.chain_names.specs.Undo.{UndoRecord}
use Rattle.chain_names.proofs.Shown.{true_is_not_false}
use Rattle.chain_names.proofs.Points.{same_point-true, same_point-self, same_point-comm}
use Rattle.chain_names.specs.Expired.{points_of, IsSortedByPoint, is_held_at, IsGone, IsDue}
use Rattle.chain_names.specs.Coins.{Maps}
use Rattle.chain_names.specs.UndoOf.{IsUndoOf, AreUndos, IsUndoByMaps}
use Rattle.chain_names.proofs.OrderLemmas.{outpoint_cmp-total, IsAbove, same_by_cmp}

-- ---- sorted outpoints

-- an outpoint below all of them is none of them
not_above : (p q : OutPoint) → IsAbove p q → (b : Bool) → same_point p q ≡ b → b ≡ false
not_above p q above false is = refl
not_above p q above true is =
    let bad : Less ≡ Equal = sym above ∙ ap (outpoint_cmp p) (sym (same_point-true p q is)) ∙ tied_itself outpoint_cmp-total p in
    absurd cc

none_above : (p : OutPoint) (qs : List OutPoint) → AllByRecursion (IsAbove p) qs → list_any (same_point p) qs ≡ false
none_above p [] above = refl
none_above p (q ∷ qs) above = ap (λ b. b || list_any (same_point p) qs) (not_above p q above.0 (same_point p q) refl) ∙ none_above p qs above.1

first_is : (p : OutPoint) (ps : List OutPoint) → list_any (same_point p) (p ∷ ps) ≡ true
first_is p ps = ap (λ b. b || list_any (same_point p) ps) (same_point-self p)

-- so is one below the first
below_first : (p q : OutPoint) (qs : List OutPoint) → IsAbove p q → IsStrictlySortedBy outpoint_cmp (q ∷ qs) → list_any (same_point p) (q ∷ qs) ≡ false
below_first p q qs above sorted =
    none_above p (q ∷ qs)
    (above, all-weaker (IsAbove q) (IsAbove p) qs (λ r higher. outpoint_cmp-total.trans p q r above higher) (sorted_head outpoint_cmp q qs sorted))

abbrev SamePoints : List OutPoint → List OutPoint → Type 0
SamePoints ps qs = (r : OutPoint) → list_any (same_point r) ps ≡ list_any (same_point r) qs

-- the first outpoints are the same
first_same : (p q : OutPoint) (ps qs : List OutPoint) → IsStrictlySortedBy outpoint_cmp (p ∷ ps) → IsStrictlySortedBy outpoint_cmp (q ∷ qs) → SamePoints (p ∷ ps) (q ∷ qs)
    → (o : Ordering) → outpoint_cmp p q ≡ o → p ≡ q
first_same p q ps qs left right same Less is =
    absurd (true_is_not_false (sym (first_is p ps) ∙ same p ∙ below_first p q qs is right))
first_same p q ps qs left right same Equal is = same_point-true p q (sym (same_by_cmp p q) ∙ ap is_eq is)
first_same p q ps qs left right same Greater is =
    let back : IsAbove q p = outpoint_cmp-total.antisymm q p ∙ ap ordering_reverse is in
    absurd (true_is_not_false (sym (first_is q qs) ∙ sym (same q) ∙ below_first q p ps back left))

rest_at : (p r : OutPoint) (ps qs : List OutPoint) (b : Bool) → same_point r p ≡ b → list_any (same_point p) ps ≡ false → list_any (same_point p) qs ≡ false
    → (b || list_any (same_point r) ps) ≡ (b || list_any (same_point r) qs) → list_any (same_point r) ps ≡ list_any (same_point r) qs
rest_at p r ps qs false is left right same = same
rest_at p r ps qs true is left right same =
    let here = same_point-true r p is in
    ap (λ x. list_any (same_point x) ps) here ∙ left ∙ sym right ∙ ap (λ x. list_any (same_point x) qs) (sym here)

rest_same : (p : OutPoint) (ps qs : List OutPoint) → IsStrictlySortedBy outpoint_cmp (p ∷ ps) → IsStrictlySortedBy outpoint_cmp (p ∷ qs) → SamePoints (p ∷ ps) (p ∷ qs)
    → SamePoints ps qs
rest_same p ps qs left right same r =
    rest_at p r ps qs (same_point r p) refl (none_above p ps (sorted_head outpoint_cmp p ps left)) (none_above p qs (sorted_head outpoint_cmp p qs right)) (same r)

-- sorted lists of the same outpoints are one
one_order : (ps qs : List OutPoint) → IsStrictlySortedBy outpoint_cmp ps → IsStrictlySortedBy outpoint_cmp qs → SamePoints ps qs → ps ≡ qs
one_order [] [] left right same = refl
one_order [] (q ∷ qs) left right same = absurd (true_is_not_false (sym (first_is q qs) ∙ sym (same q)))
one_order (p ∷ ps) [] left right same = absurd (true_is_not_false (sym (first_is p ps) ∙ same p))
one_order (p ∷ ps) (q ∷ qs) left right same =
    let first = first_same p q ps qs left right same (outpoint_cmp p q) refl in
    let right' = subst (λ x. IsStrictlySortedBy outpoint_cmp (x ∷ qs)) (sym first) right in
    let same' = subst (λ x. SamePoints (p ∷ ps) (x ∷ qs)) (sym first) same in
    let rest = one_order ps qs (sorted_tail outpoint_cmp p ps left) (sorted_tail outpoint_cmp q qs right) (rest_same p ps qs left right' same') in
    λ i. first i ∷ rest i

-- ---- the coins there

abbrev IsThere : (OutPoint → Option Coin) → HeldCoin → Type 0
IsThere coins held = coins held.at ≡ Some held.coin

same_held : (coins : OutPoint → Option Coin) (a b : HeldCoin) → IsThere coins a → IsThere coins b → a.at ≡ b.at → a ≡ b
same_held coins a b here there at =
    let both : Some a.coin ≡ Some b.coin = sym here ∙ ap coins at ∙ there in
    let coin : a.coin ≡ b.coin = cc in
    λ i. record { at = at i; coin = coin i }

one_list : (coins : OutPoint → Option Coin) (xs ys : List HeldCoin) → AllByRecursion (IsThere coins) xs → AllByRecursion (IsThere coins) ys → points_of xs ≡ points_of ys → xs ≡ ys
one_list coins [] [] left right e = refl
one_list coins [] (y ∷ ys) left right e = absurd cc
one_list coins (x ∷ xs) [] left right e = absurd cc
one_list coins (x ∷ xs) (y ∷ ys) left right e =
    let at : x.at ≡ y.at = cc in
    let points : points_of xs ≡ points_of ys = cc in
    let first = same_held coins x y left.0 right.0 at in
    let rest = one_list coins xs ys left.1 right.1 points in
    λ i. first i ∷ rest i

-- ---- what is due

any_point : (helds : List HeldCoin) (point : OutPoint) → list_any (is_held_at point) helds ≡ list_any (same_point point) (points_of helds)
any_point [] point = refl
any_point (held ∷ helds) point =
    ap (λ b. b || list_any (is_held_at point) helds) (same_point-comm held.at point) ∙ ap (λ b. same_point point held.at || b) (any_point helds point)

listed_too : (now next : OutPoint → Option Coin) (xs ys : List HeldCoin) (point : OutPoint) → IsDue now next ys → AllByRecursion (IsGone now next) xs
    → list_any (is_held_at point) xs ≡ true → list_any (is_held_at point) ys ≡ true
listed_too now next [] ys point due all e = absurd (true_is_not_false (sym e))
listed_too now next (x ∷ xs) ys point due all e = by (same_point x.at point) refl e (listed_too now next xs ys point due all.1)
  where
    by : (b : Bool) → same_point x.at point ≡ b → (b || list_any (is_held_at point) xs) ≡ true
        → (list_any (is_held_at point) xs ≡ true → list_any (is_held_at point) ys ≡ true) → list_any (is_held_at point) ys ≡ true
    by true is e' later =
        let here = same_point-true x.at point is in
        due.all point x.coin (ap now (sym here) ∙ all.0.now_is) (ap next (sym here) ∙ all.0.next_is)
    by false is e' later = later e'

-- the coins that are due, in order, are one list
one_due : (now next : OutPoint → Option Coin) (xs ys : List HeldCoin) → IsDue now next xs → IsDue now next ys → IsSortedByPoint xs → IsSortedByPoint ys → xs ≡ ys
one_due now next xs ys left right left_sorted right_sorted =
    one_list now xs ys (all-weaker (IsGone now next) (IsThere now) xs (λ held gone. gone.now_is) left.each)
    (all-weaker (IsGone now next) (IsThere now) ys (λ held gone. gone.now_is) right.each)
    (one_order (points_of xs) (points_of ys) left_sorted right_sorted
    (λ point. sym (any_point xs point)
    ∙ same_truth (list_any (is_held_at point) xs) (list_any (is_held_at point) ys) (listed_too now next xs ys point right left.each) (listed_too now next ys xs point left right.each)
    ∙ any_point ys point))

-- ---- records

pub one_undo-maps : (profile : Profile) (height : ℕ) (transactions : List Transaction) (maps : Maps) (u v : UndoRecord) → IsUndoByMaps profile height transactions maps u
    → IsUndoByMaps profile height transactions maps v → u.block ≡ v.block → u ≡ v
one_undo-maps profile height transactions maps u v left right block =
    let ops = left.ops ∙ sym right.ops in
    let expired = one_due _ _ u.expired v.expired left.due right.due left.sorted right.sorted in
    λ i. record { block = block i; ops = ops i; expired = expired i }

pub one_undo-block : (profile : Profile) (start : Log) (base : ℕ) (block : List ℕ) (blocks : List (List ℕ)) (u v : UndoRecord) → IsUndoOf profile start base block blocks u
    → IsUndoOf profile start base block blocks v → u ≡ v
one_undo-block profile start base block blocks u v left right =
    let hash = left.hash ∙ sym right.hash in
    let ops = left.ops ∙ sym right.ops in
    let expired = one_due _ _ u.expired v.expired left.due right.due left.sorted right.sorted in
    λ i. record { block = record { 0 = hash i }; ops = ops i; expired = expired i }

pub one_undo-chain : (profile : Profile) (start : Log) (base : ℕ) (blocks : List (List ℕ)) (us vs : List UndoRecord) → AreUndos profile start base blocks us → AreUndos profile start base blocks vs → us ≡ vs
one_undo-chain profile start base [] [] [] left right = refl
one_undo-chain profile start base [] [] (v ∷ vs) left right = absurd right
one_undo-chain profile start base [] (u ∷ us) vs left right = absurd left
one_undo-chain profile start base (block ∷ blocks) [] vs left right = absurd left
one_undo-chain profile start base (block ∷ blocks) (u ∷ us) [] left right = absurd right
one_undo-chain profile start base (block ∷ blocks) (u ∷ us) (v ∷ vs) left right =
    let first = one_undo-block profile start base block blocks u v left.0 right.0 in
    let rest = one_undo-chain profile start base blocks us vs left.1 right.1 in
    λ i. first i ∷ rest i
