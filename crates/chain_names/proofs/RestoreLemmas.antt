-- The coins that were due are put back, and the operations undone.
use Rattle.std.proofs.Common.{◌≡◌, ℕ, suc, Bool, true, false, cond, List, [], ◌∷◌, refl, sym, ap, ◌∙◌, inl, inr, ⊎_elim, ◌⊎◌}
use Rattle.std.proofs.Math.Path.{fun_ext}
use Rattle.std.specs.Prelude.{Option, Some, None, ◌||◌}
use Rattle.std.specs.List.{list_any, AllByRecursion}
use Rattle.block_grammar.specs.Transaction.{Transaction}
use Rattle.nmc_base.specs.declared.hashes.OutPoint.{OutPoint}
use Rattle.nmc_base.specs.declared.chain_ends.Profile.{Profile}
use Rattle.nmc_base.specs.Expiry.{is_expired}
use Rattle.nmc_base.proofs.ListLemmas.{all-weaker}
use Rattle.chain_names.specs.declared.coin.Coin.{Coin}
use Rattle.chain_names.specs.declared.coin.Coin.TheVariants.{New, Named}
use Rattle.chain_names.specs.declared.coin.HeldCoin.{HeldCoin}
use Rattle.chain_names.specs.Points.{same_point}
use Rattle.chain_names.specs.Coins.{Maps, unless_expired}
use Rattle.chain_names.specs.Changes.{after_all, after_block, first_refused, restored, undo_ops, undone, back_ops}
use Rattle.chain_names.proofs.BlockLemmas.{all_back}
use Rattle.chain_names.proofs.Shown.{true_is_not_false}
use Rattle.chain_names.proofs.LogLemmas.{with_maps}
use Rattle.chain_names.proofs.Points.{same_point-true}
use Rattle.chain_names.specs.Expired.{is_held_at, IsGone, IsDue}

-- ---- what is put back

abbrev IsOf : (OutPoint → Option Coin) → HeldCoin → Type 0
IsOf coins held = coins held.at ≡ Some held.coin

restored_here : (coins target : OutPoint → Option Coin) (held : HeldCoin) (helds : List HeldCoin) (point : OutPoint) → target held.at ≡ Some held.coin
    → ((list_any (is_held_at point) helds ≡ false → coins point ≡ target point) → restored helds coins point ≡ target point)
    → (b : Bool) → same_point held.at point ≡ b → ((b || list_any (is_held_at point) helds) ≡ false → coins point ≡ target point)
    → cond b (Some held.coin) (restored helds coins point) ≡ target point
restored_here coins target held helds point here later true is rest = sym here ∙ ap target (same_point-true held.at point is)
restored_here coins target held helds point here later false is rest = later rest

-- coins of the target put back where the others are the target's already
restored_at : (coins target : OutPoint → Option Coin) (helds : List HeldCoin) (point : OutPoint) → AllByRecursion (IsOf target) helds
    → (list_any (is_held_at point) helds ≡ false → coins point ≡ target point) → restored helds coins point ≡ target point
restored_at coins target [] point all rest = rest refl
restored_at coins target (held ∷ helds) point all rest =
    restored_here coins target held helds point all.0 (restored_at coins target helds point all.1) (same_point held.at point) refl rest

restored-target : (coins target : OutPoint → Option Coin) (helds : List HeldCoin) → AllByRecursion (IsOf target) helds
    → ((point : OutPoint) → list_any (is_held_at point) helds ≡ false → coins point ≡ target point) → restored helds coins ≡ target
restored-target coins target helds all rest = fun_ext (λ point. restored_at coins target helds point all (rest point))

-- ---- what was due

-- a coin that stays, stays the same
stays_same : (profile : Profile) (height : ℕ) (coin : Option Coin) → (coin ≡ None) ⊎ ((unless_expired profile height coin ≡ None) ⊎ (unless_expired profile height coin ≡ coin))
stays_same profile height None = inl refl
stays_same profile height (Some (New hash made)) = inr (inr refl)
stays_same profile height (Some (Named name made)) = inr (by (is_expired profile made height))
  where
    by : (b : Bool) → (cond {A = Option Coin} b None (Some (Named name made)) ≡ None) ⊎ (cond b None (Some (Named name made)) ≡ Some (Named name made))
    by true = inl refl
    by false = inr refl

not_due : (profile : Profile) (height : ℕ) (now : OutPoint → Option Coin) (expired : List HeldCoin) (point : OutPoint)
    → IsDue now (λ p. unless_expired profile height (now p)) expired → list_any (is_held_at point) expired ≡ false
    → (coin : Option Coin) → now point ≡ coin → unless_expired profile height (now point) ≡ now point
not_due profile height now expired point due none None is = ap (unless_expired profile height) is ∙ sym is
not_due profile height now expired point due none (Some coin) is =
    ⊎_elim (λ free. absurd (some_is_not_none coin (sym is ∙ free)))
    (⊎_elim (λ gone. absurd (true_is_not_false (sym (due.all point coin is gone) ∙ none))) (λ same. same))
    (stays_same profile height (now point))
  where
    some_is_not_none : (coin : Coin) → Some coin ≡ None → ⊥
    some_is_not_none coin e = cc

-- putting back what was due gives the coins before
pub due_restored : (profile : Profile) (height : ℕ) (now : OutPoint → Option Coin) (expired : List HeldCoin)
    → IsDue now (λ p. unless_expired profile height (now p)) expired → restored expired (λ p. unless_expired profile height (now p)) ≡ now
due_restored profile height now expired due =
    restored-target (λ p. unless_expired profile height (now p)) now expired
    (all-weaker (IsGone now (λ p. unless_expired profile height (now p))) (IsOf now) expired (λ held gone. gone.now_is) due.each)
    (λ point none. not_due profile height now expired point due none (now point) refl)

-- ---- the other way

elsewhere_here : (coins : OutPoint → Option Coin) (held : HeldCoin) (helds : List HeldCoin) (point : OutPoint)
    → (list_any (is_held_at point) helds ≡ false → restored helds coins point ≡ coins point)
    → (b : Bool) → (b || list_any (is_held_at point) helds) ≡ false → cond b (Some held.coin) (restored helds coins point) ≡ coins point
elsewhere_here coins held helds point later true none = absurd (true_is_not_false none)
elsewhere_here coins held helds point later false none = later none

pub restored-elsewhere : (coins : OutPoint → Option Coin) (helds : List HeldCoin) (point : OutPoint) → list_any (is_held_at point) helds ≡ false
    → restored helds coins point ≡ coins point
restored-elsewhere coins [] point none = refl
restored-elsewhere coins (held ∷ helds) point none =
    elsewhere_here coins held helds point (restored-elsewhere coins helds point) (same_point held.at point) none

listed : (now next : OutPoint → Option Coin) (expired : List HeldCoin) (point : OutPoint) (coin : Coin) → restored expired next ≡ now → now point ≡ Some coin → next point ≡ None
    → (b : Bool) → list_any (is_held_at point) expired ≡ b → b ≡ true
listed now next expired point coin back held gone true is = refl
listed now next expired point coin back held gone false is =
    let bad : None ≡ Some coin = sym gone ∙ sym (restored-elsewhere next expired point is) ∙ ap (λ (f : OutPoint → Option Coin). f point) back ∙ held in
    absurd cc

-- where putting back coins that are gone gives the coins before, these are all that were due
pub restored_due : (now next : OutPoint → Option Coin) (expired : List HeldCoin) → AllByRecursion (IsGone now next) expired → restored expired next ≡ now → IsDue now next expired
restored_due now next expired each back = record {
  each = each;
  all = λ point coin held gone. listed now next expired point coin back held gone (list_any (is_held_at point) expired) refl;
}

-- ---- a block

-- a block is undone
pub block_undone : (profile : Profile) (height index : ℕ) (ts : List Transaction) (maps : Maps) (expired : List HeldCoin)
    → first_refused profile height index ts maps ≡ None
    → IsDue (after_all profile height ts maps).coins (after_block profile height ts maps).coins expired
    → undone (undo_ops profile height ts maps) expired (after_block profile height ts maps) ≡ maps
block_undone profile height index ts maps expired accepted due =
    let after = after_all profile height ts maps in
    ap (λ coins. back_ops (undo_ops profile height ts maps) (with_maps coins after.names)) (due_restored profile (suc height) after.coins expired due)
    ∙ all_back profile height index ts maps accepted
