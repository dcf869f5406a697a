-- What is looked at operation by operation is a step of the walk, and only that is.
use Rattle.std.proofs.Common.{◌≡◌, ℕ, Bool, true, List, [], ◌∷◌, ⊎_elim, refl, sym, subst}
use Rattle.std.specs.Prelude.{Option, Some, None}
use Rattle.std.specs.List.{AllByRecursion, list_any}
use Rattle.std.proofs.lemmas.Bool.{or_cases, or_left, or_right}
use Rattle.nmc_base.specs.declared.hashes.OutPoint.{OutPoint}
use Rattle.nmc_base.specs.declared.chain_ends.Profile.{Profile}
use Rattle.chain_names.specs.declared.coin.Coin.{Coin}
use Rattle.chain_names.specs.declared.coin.Coin.TheVariants.{New, Named}
use Rattle.chain_names.specs.declared.coin.HeldCoin.{HeldCoin}
use Rattle.chain_names.specs.declared.undo.UndoOp.{UndoOp}
use Rattle.chain_names.specs.declared.undo.UndoOp.TheVariants.{New as undo_new, First as undo_first, Update as undo_update}
use Rattle.chain_names.specs.Coins.{Maps}
use Rattle.chain_names.specs.Expired.{is_held_at}
use Rattle.chain_names.specs.Undo.{UndoRecord}
use Rattle.chain_names.proofs.Changed.{bytes_eq-true, bytes_eq-self}
use Rattle.chain_names.proofs.Points.{same_point-true, same_point-self}
use Rattle.chain_names.proofs.Shown.{true_is_not_false}
use Rattle.sound_states.specs.Touched.{changes, returns, is_put_back}
use Rattle.sound_states.specs.OneSound.{HasItsCoin}
use Rattle.sound_states.specs.StepLists.{HadCoin, StandsIfNamed, PointStands, SpentStands, HeldStands, IsStepByLists}
use Rattle.sound_states.specs.Walk.{IsWalkStep}

-- one of them is so
any_gives : {X : Type 0} (P : X → Type 0) (p : X → Bool) (Q : Type 0) (xs : List X) → AllByRecursion P xs → ((x : X) → P x → p x ≡ true → Q) → list_any p xs ≡ true → Q
any_gives P p Q [] all f e = absurd (true_is_not_false (sym e))
any_gives P p Q (x ∷ xs) all f e = ⊎_elim (λ here. f x all.0 here) (λ there. any_gives P p Q xs all.1 f there) (or_cases (p x) (list_any p xs) e)

-- what holds of each key that one of them has gives what holds of each of them
all_from : {X K : Type 0} (P : X → Type 0) (has : K → X → Bool) (Q : K → Type 0) → ((x : X) → ((k : K) → has k x ≡ true → Q k) → P x) → (xs : List X)
    → ((k : K) → list_any (has k) xs ≡ true → Q k) → AllByRecursion P xs
all_from P has Q one [] f = tt
all_from P has Q one (x ∷ xs) f = (
  one x (λ k e. f k (or_left (has k x) (list_any (has k) xs) e)),
  all_from P has Q one xs (λ k e. f k (or_right (has k x) (list_any (has k) xs) e)),
)

module _ (profile : Profile) (tip : ℕ) (u : UndoRecord) (maps left : Maps) where
  -- ---- from the lists

  op_had : (name : List ℕ) (op : UndoOp) → HadCoin profile tip maps op → changes name op ≡ true → HasItsCoin profile tip maps name
  op_had name (undo_new made) had e = absurd (true_is_not_false (sym e))
  op_had name (undo_first made spent coin moved before) had e = subst (HasItsCoin profile tip maps) (bytes_eq-true moved name e) had
  op_had name (undo_update made spent coin moved before) had e = subst (HasItsCoin profile tip maps) (bytes_eq-true moved name e) had

  op_stands : (point : OutPoint) (op : UndoOp) → SpentStands profile tip left op → returns point op ≡ true → PointStands profile tip left point
  op_stands point (undo_new made) stands e = absurd (true_is_not_false (sym e))
  op_stands point (undo_first made spent coin moved before) stands e = subst (PointStands profile tip left) (same_point-true spent point e) stands
  op_stands point (undo_update made spent coin moved before) stands e = subst (PointStands profile tip left) (same_point-true spent point e) stands

  held_stands : (point : OutPoint) (held : HeldCoin) → HeldStands profile tip left held → is_held_at point held ≡ true → PointStands profile tip left point
  held_stands point held stands e = subst (PointStands profile tip left) (same_point-true held.at point e) stands

  point_stands : IsStepByLists profile tip u maps left → (point : OutPoint) → is_put_back point u ≡ true → PointStands profile tip left point
  point_stands step point e =
      ⊎_elim (λ spent. any_gives (SpentStands profile tip left) (returns point) (PointStands profile tip left point) u.ops step.spent (op_stands point) spent)
      (λ gone. any_gives (HeldStands profile tip left) (is_held_at point) (PointStands profile tip left point) u.expired step.expired (held_stands point) gone)
      (or_cases (list_any (returns point) u.ops) (list_any (is_held_at point) u.expired) e)

  pub lists_step : IsStepByLists profile tip u maps left → IsWalkStep profile tip u maps left
  lists_step step = record {
    limits = step.limits;
    fits = step.fits;
    had_coin = λ name e. any_gives (HadCoin profile tip maps) (changes name) (HasItsCoin profile tip maps name) u.ops step.had_coin (op_had name) e;
    put_back = λ point name made e held. subst (StandsIfNamed profile tip left point) held (point_stands step point e);
    not_asked = step.not_asked;
  }

  -- ---- to the lists

  had_of : (op : UndoOp) → ((name : List ℕ) → changes name op ≡ true → HasItsCoin profile tip maps name) → HadCoin profile tip maps op
  had_of (undo_new made) f = tt
  had_of (undo_first made spent coin name before) f = f name (bytes_eq-self name)
  had_of (undo_update made spent coin name before) f = f name (bytes_eq-self name)

  spent_of : (op : UndoOp) → ((point : OutPoint) → returns point op ≡ true → PointStands profile tip left point) → SpentStands profile tip left op
  spent_of (undo_new made) f = tt
  spent_of (undo_first made spent coin name before) f = f spent (same_point-self spent)
  spent_of (undo_update made spent coin name before) f = f spent (same_point-self spent)

  held_of : (held : HeldCoin) → ((point : OutPoint) → is_held_at point held ≡ true → PointStands profile tip left point) → HeldStands profile tip left held
  held_of held f = f held.at (same_point-self held.at)

  stands_of : IsWalkStep profile tip u maps left → (point : OutPoint) → is_put_back point u ≡ true → PointStands profile tip left point
  stands_of step point e = by (left.coins point) refl
    where
      by : (coin : Option Coin) → left.coins point ≡ coin → StandsIfNamed profile tip left point coin
      by None held = tt
      by (Some (New hash made)) held = tt
      by (Some (Named name made)) held = step.put_back point name made e held

  pub step_lists : IsWalkStep profile tip u maps left → IsStepByLists profile tip u maps left
  step_lists step = record {
    limits = step.limits;
    fits = step.fits;
    had_coin = all_from (HadCoin profile tip maps) changes (HasItsCoin profile tip maps) had_of u.ops step.had_coin;
    not_asked = step.not_asked;
    spent = all_from (SpentStands profile tip left) returns (PointStands profile tip left) spent_of u.ops
        (λ point e. stands_of step point (or_left (list_any (returns point) u.ops) (list_any (is_held_at point) u.expired) e));
    expired = all_from (HeldStands profile tip left) is_held_at (PointStands profile tip left) held_of u.expired
        (λ point e. stands_of step point (or_right (list_any (returns point) u.ops) (list_any (is_held_at point) u.expired) e));
  }
