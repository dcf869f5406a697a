-- The tables of an image stay within their limits, and its coins are few.
use Rattle.std.proofs.Common.{◌≡◌, ℕ, ◌≤◌, Bool, true, false, cond, List, [], ◌∷◌, ◌++◌, length, Option, Some, None, is_some, refl, sym, ap, subst, ◌∙◌, arith, length-append}
use Rattle.std.specs.List.{AllByRecursion, list_any}
use Rattle.std.specs.List.Sorted.{IsStrictlySortedBy}
use Rattle.std.specs.Map.{lookup, keys_of}
use Rattle.std.specs.Str.{bytes_eq}
use Rattle.std.proofs.lemmas.Map.Entries.{length-keys_of}
use Rattle.std.proofs.lemmas.Map.Made.{is_some-lookup}
use Rattle.nmc_base.specs.declared.hashes.OutPoint.{OutPoint}
use Rattle.chain_names.specs.declared.coin.Coin.{Coin}
use Rattle.chain_names.specs.declared.coin.HeldCoin.{HeldCoin}
use Rattle.chain_names.specs.declared.coin.Item.{Item}
use Rattle.chain_names.specs.declared.undo.Undo.{Undo}
use Rattle.chain_names.specs.declared.undo.UndoOp.{UndoOp}
use Rattle.chain_names.specs.declared.undo.UndoOp.TheVariants.{New as undo_new, First as undo_first, Update as undo_update}
use Rattle.chain_names.specs.Expired.{IsSortedByPoint, points_of}
use Rattle.chain_names.specs.Limits.{IsNameCoin, IsWithinLimitsOp, HoldsName}
use Rattle.chain_names.specs.Points.{same_point, changed}
use Rattle.chain_names.specs.Seen.{seen_undo}
use Rattle.chain_names.specs.State.{FitsItem}
use Rattle.chain_names.specs.Tables.{CoinSlots, NameSlots, filled_by, coins_in, names_in}
use Rattle.chain_names.proofs.Changed.{bytes_eq-true}
use Rattle.sound_states.specs.Touched.{spent_points, points_put_back}
use Rattle.sound_states.specs.Walk.{HasFewCoins}
use Rattle.table_trials.specs.Images.{AreShort, IsSmallRecord}

all_more : {A : Type 0} (P : A → Type 0) (xs : List A) (x : A) → AllByRecursion P xs → P x → AllByRecursion P (xs ++ x ∷ [])
all_more P [] x all one = (one, tt)
all_more P (y ∷ ys) x all one = (all.0, all_more P ys x all.1 one)

pub short_more : (old new : NameSlots) (name : List ℕ) (item : Item) → FitsItem name item → names_in new ≡ changed bytes_eq (names_in old) name (names_in old name ++ item ∷ [])
    → AreShort old → AreShort new
short_more old new name item fits pushed short other = subst (λ (items : List Item). AllByRecursion (FitsItem other) items) (sym (ap (λ f. f other) pushed)) (by (bytes_eq name other) refl)
  where
    by : (b : Bool) → bytes_eq name other ≡ b → AllByRecursion (FitsItem other) (cond b (names_in old name ++ item ∷ []) (names_in old other))
    by true e =
        subst (λ (n : List ℕ). AllByRecursion (FitsItem n) (names_in old name ++ item ∷ [])) (bytes_eq-true name other e)
        (all_more (FitsItem name) (names_in old name) item (short name) fits)
    by false e = short other

pub spent_few : (ops : List UndoOp) → length (spent_points ops) ≤ length ops
spent_few [] = omega arith
spent_few (undo_new made ∷ ops) = let rest = spent_few ops in omega (arith, rest)
spent_few (undo_first made spent coin name before ∷ ops) = let rest = spent_few ops in omega (arith, rest)
spent_few (undo_update made spent coin name before ∷ ops) = let rest = spent_few ops in omega (arith, rest)

pub expired_few : (helds : List HeldCoin) → length (points_of helds) ≤ length helds
expired_few [] = omega arith
expired_few (held ∷ helds) = let rest = expired_few helds in omega (arith, rest)

-- the outpoints of the places are all that there are
pub placed : (slots : CoinSlots) (point : OutPoint) (coin : Coin) → coins_in slots point ≡ Some coin → list_any (same_point point) (keys_of slots) ≡ true
placed slots point coin held = sym (is_some-lookup (same_point point) slots) ∙ found (lookup (same_point point) slots) held
  where
    found : (place : Option (Option Coin)) → filled_by place ≡ Some coin → is_some place ≡ true
    found (Some at) e = refl
    found None e = absurd cc

pub few_coins : (slots : CoinSlots) (names : List ℕ → List Item) (undo : Undo) → length slots ≤ 4 → IsSmallRecord undo
    → HasFewCoins (record { coins = coins_in slots; names = names }) (seen_undo undo ∷ [])
few_coins slots names undo few small =
    let u = seen_undo undo in
    record {
      points = keys_of slots;
      all = placed slots;
      few =
          omega (
            arith,
            length-keys_of slots,
            few,
            small.ops,
            small.expired,
            spent_few u.ops,
            expired_few u.expired,
            length-append (spent_points u.ops) (points_of u.expired),
            length-append (points_put_back u) [],
          );
    }

pub small : (undo : Undo) (op : UndoOp) (held : HeldCoin) → undo.ops.items ≡ op ∷ [] → undo.expired.items ≡ held ∷ [] → IsWithinLimitsOp op → IsNameCoin held.coin → IsSmallRecord undo
unfolding IsStrictlySortedBy
small undo op held ops expired fits named =
    let one : length undo.ops.items ≡ 1 = ap (λ (os : List UndoOp). length os) ops in
    let other : length undo.expired.items ≡ 1 = ap (λ (hs : List HeldCoin). length hs) expired in
    record {
      limits = record {
        few_ops = omega (arith, one);
        few_expired = omega (arith, other);
        ops = subst (AllByRecursion IsWithinLimitsOp) (sym ops) (fits, tt);
        expired = subst (AllByRecursion HoldsName) (sym expired) (named, tt);
        sorted = subst IsSortedByPoint (sym expired) (tt, tt);
      };
      ops = omega (arith, one);
      expired = omega (arith, other);
    }
