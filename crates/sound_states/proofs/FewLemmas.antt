-- The coins of a state and of its records are few, and so the names of each height are.
use Rattle.std.proofs.Common.{◌≡◌, ℕ, Bool, true, false, List, [], ◌∷◌, ◌++◌, ⊎_elim, refl, sym, ◌∙◌, arith, length-append}
use Rattle.std.specs.Prelude.{Option, Some, None, ◌||◌}
use Rattle.std.specs.List.{list_any}
use Rattle.std.proofs.lemmas.List.Folds.{list_any-append}
use Rattle.std.proofs.lemmas.Bool.{or_cases, or_left, or_right}
use Rattle.nmc_base.specs.declared.hashes.OutPoint.{OutPoint}
use Rattle.chain_names.specs.declared.coin.Coin.{Coin}
use Rattle.chain_names.specs.declared.coin.HeldCoin.{HeldCoin}
use Rattle.chain_names.specs.declared.undo.UndoOp.{UndoOp}
use Rattle.chain_names.specs.declared.undo.UndoOp.TheVariants.{New as undo_new, First as undo_first, Update as undo_update}
use Rattle.chain_names.specs.Points.{same_point}
use Rattle.chain_names.specs.Coins.{Maps}
use Rattle.chain_names.specs.Changes.{undone}
use Rattle.chain_names.specs.Tables.{is_named_at}
use Rattle.chain_names.specs.Undo.{UndoRecord}
use Rattle.chain_names.specs.Expired.{is_held_at, points_of}
use Rattle.chain_names.specs.State.{HasFewNames}
use Rattle.chain_names.proofs.Points.{same_point-comm}
use Rattle.chain_names.proofs.Shown.{true_is_not_false}
use Rattle.sound_states.specs.Touched.{returns, is_put_back, spent_points, points_put_back, points_below}
use Rattle.sound_states.specs.Walk.{HasFewCoins}
use Rattle.sound_states.proofs.BackLemmas.{was_there}

-- of a list with one outpoint more
listed_more : (point at : OutPoint) (points : List OutPoint) (later : Bool) → (later ≡ true → list_any (same_point point) points ≡ true)
    → (same_point at point || later) ≡ true → list_any (same_point point) (at ∷ points) ≡ true
listed_more point at points later listed e =
    ⊎_elim (λ here. or_left (same_point point at) (list_any (same_point point) points) (same_point-comm point at ∙ here))
    (λ there. or_right (same_point point at) (list_any (same_point point) points) (listed there)) (or_cases (same_point at point) later e)

spent_listed : (ops : List UndoOp) (point : OutPoint) → list_any (returns point) ops ≡ true → list_any (same_point point) (spent_points ops) ≡ true
spent_listed [] point e = e
spent_listed (undo_new made ∷ ops) point e = spent_listed ops point e
spent_listed (undo_first made spent coin moved before ∷ ops) point e = listed_more point spent (spent_points ops) (list_any (returns point) ops) (spent_listed ops point) e
spent_listed (undo_update made spent coin moved before ∷ ops) point e = listed_more point spent (spent_points ops) (list_any (returns point) ops) (spent_listed ops point) e

expired_listed : (helds : List HeldCoin) (point : OutPoint) → list_any (is_held_at point) helds ≡ true → list_any (same_point point) (points_of helds) ≡ true
expired_listed [] point e = e
expired_listed (first ∷ helds) point e = listed_more point first.at (points_of helds) (list_any (is_held_at point) helds) (expired_listed helds point) e

listed_left : (point : OutPoint) (xs ys : List OutPoint) → list_any (same_point point) xs ≡ true → list_any (same_point point) (xs ++ ys) ≡ true
listed_left point xs ys e = list_any-append (same_point point) xs ys ∙ or_left (list_any (same_point point) xs) (list_any (same_point point) ys) e

listed_right : (point : OutPoint) (xs ys : List OutPoint) → list_any (same_point point) ys ≡ true → list_any (same_point point) (xs ++ ys) ≡ true
listed_right point xs ys e = list_any-append (same_point point) xs ys ∙ or_right (list_any (same_point point) xs) (list_any (same_point point) ys) e

put_back_listed : (u : UndoRecord) (point : OutPoint) → is_put_back point u ≡ true → list_any (same_point point) (points_put_back u) ≡ true
put_back_listed u point e =
    ⊎_elim (λ spent. listed_left point (spent_points u.ops) (points_of u.expired) (spent_listed u.ops point spent))
    (λ gone. listed_right point (spent_points u.ops) (points_of u.expired) (expired_listed u.expired point gone))
    (or_cases (list_any (returns point) u.ops) (list_any (is_held_at point) u.expired) e)

pub few_left : (maps : Maps) (u : UndoRecord) (us : List UndoRecord) → HasFewCoins maps (u ∷ us) → HasFewCoins (undone u.ops u.expired maps) us
few_left maps u us few = record {
  points = few.points ++ points_put_back u;
  all = λ point coin held. listed point coin held (is_put_back point u) refl;
  few = omega (arith, few.few, length-append few.points (points_put_back u), length-append (points_put_back u) (points_below us));
}
  where
    listed : (point : OutPoint) (coin : Coin) → (undone u.ops u.expired maps).coins point ≡ Some coin → (b : Bool) → is_put_back point u ≡ b
        → list_any (same_point point) (few.points ++ points_put_back u) ≡ true
    listed point coin held true is = listed_right point few.points (points_put_back u) (put_back_listed u point is)
    listed point coin held false is = listed_left point few.points (points_put_back u) (few.all point coin (was_there u maps point coin is held))

pub few_names : (maps : Maps) (us : List UndoRecord) → HasFewCoins maps us → (height : ℕ) → HasFewNames maps.coins height
few_names maps us few height = record {
  points = few.points;
  few = omega (arith, few.few);
  all = λ point named. listed point (maps.coins point) refl named;
}
  where
    listed : (point : OutPoint) (coin : Option Coin) → maps.coins point ≡ coin → is_named_at height coin ≡ true → list_any (same_point point) few.points ≡ true
    listed point None held named = absurd (true_is_not_false (sym named))
    listed point (Some coin) held named = few.all point coin held
