-- The coins that are due: those of one row of the queue.
use Rattle.std.proofs.Common.{◌≡◌, ℕ, suc, Bool, true, false, cond, List, [], ◌∷◌, refl, sym, ap, ◌∙◌}
use Rattle.std.proofs.Math.Path.{fun_ext}
use Rattle.std.specs.Prelude.{Option, Some, None, ◌==◌, ◌||◌, ◌&&◌}
use Rattle.std.specs.List.{list_any}
use Rattle.std.specs.Cmp.{unsigned_Decides}
use Rattle.nmc_base.specs.declared.hashes.OutPoint.{OutPoint}
use Rattle.nmc_base.specs.declared.chain_ends.Profile.{Profile}
use Rattle.nmc_base.specs.Expiry.{due_height, is_expired}
use Rattle.nmc_base.proofs.DueHeights.{due_expires, expires_due}
use Rattle.chain_names.specs.declared.coin.Coin.{Coin}
use Rattle.chain_names.specs.declared.coin.Coin.TheVariants.{New, Named}
use Rattle.chain_names.specs.Points.{same_point, changed}
use Rattle.chain_names.specs.Coins.{unless_expired}
use Rattle.chain_names.specs.Tables.{is_named_at}
use Rattle.chain_names.specs.Changes.{unless_named_at, cleared}
use Rattle.chain_names.proofs.Points.{same_point-Decides, same_point-comm}
use Rattle.chain_names.proofs.Shown.{true_is_not_false}

-- ---- what is cleared

cleared_at : (height : ℕ) (point q : OutPoint) (coins : OutPoint → Option Coin) (b : Bool) → same_point point q ≡ b
    → cond b (unless_named_at height (coins point)) (coins q) ≡ cond (is_named_at height (coins q) && b) None (coins q)
cleared_at height point q coins true is = ap (λ p. unless_named_at height (coins p)) ((same_point-Decides point q).0 is) ∙ same (is_named_at height (coins q))
  where
    same : (c : Bool) → cond c None (coins q) ≡ cond (c && true) None (coins q)
    same true = refl
    same false = refl
cleared_at height point q coins false is = same (is_named_at height (coins q))
  where
    same : (c : Bool) → coins q ≡ cond (c && false) None (coins q)
    same true = refl
    same false = refl

twice : (height : ℕ) (coin : Option Coin) (n a b : Bool) → is_named_at height coin ≡ n
    → cond (is_named_at height (cond (n && a) None coin) && b) None (cond (n && a) None coin) ≡ cond (n && (a || b)) None coin
twice height coin true true b is = refl
twice height coin true false b is = ap (λ c. cond (c && b) None coin) is
twice height coin false a b is = ap (λ c. cond (c && b) None coin) is

cleared-at : (height : ℕ) (points : List OutPoint) (coins : OutPoint → Option Coin) (q : OutPoint)
    → cleared height points coins q ≡ cond (is_named_at height (coins q) && list_any (same_point q) points) None (coins q)
cleared-at height [] coins q = same (is_named_at height (coins q))
  where
    same : (c : Bool) → coins q ≡ cond (c && false) None (coins q)
    same true = refl
    same false = refl
cleared-at height (point ∷ points) coins q =
    let next = changed same_point coins point (unless_named_at height (coins point)) in
    let first = cleared_at height point q coins (same_point point q) refl ∙ ap (λ b. cond (is_named_at height (coins q) && b) None (coins q)) (same_point-comm point q) in
    cleared-at height points next q
    ∙ ap (λ c. cond (is_named_at height c && list_any (same_point q) points) None c) first
    ∙ twice height (coins q) (is_named_at height (coins q)) (same_point q point) (list_any (same_point q) points) refl

-- the outpoints are all of the row
pub cleared-row : (height : ℕ) (points : List OutPoint) (coins : OutPoint → Option Coin)
    → ((q : OutPoint) → is_named_at height (coins q) ≡ true → list_any (same_point q) points ≡ true)
    → cleared height points coins ≡ (λ q. unless_named_at height (coins q))
cleared-row height points coins all = fun_ext (λ q. cleared-at height points coins q ∙ row q (is_named_at height (coins q)) refl)
  where
    row : (q : OutPoint) (n : Bool) → is_named_at height (coins q) ≡ n → cond (n && list_any (same_point q) points) None (coins q) ≡ cond n None (coins q)
    row q true is = ap (λ b. cond b None (coins q)) (all q is)
    row q false is = refl

-- ---- what is due

live_named : (profile : Profile) (height made : ℕ) (name : List ℕ) → cond (is_expired profile made height) None (Some (Named name made)) ≡ Some (Named name made) → is_expired profile made height ≡ false
live_named profile height made name live = by (is_expired profile made height) live
  where
    by : (e : Bool) → cond e None (Some (Named name made)) ≡ Some (Named name made) → e ≡ false
    by true none = absurd cc
    by false some = refl

-- a live name expires exactly where it is of the row that is due
due_named : (profile : Profile) (height row made : ℕ) → due_height profile (suc height) ≡ Some row → is_expired profile made height ≡ false
    → (b : Bool) → (made == row) ≡ b → is_expired profile made (suc height) ≡ b
due_named profile height row made due live true is =
    ap (λ n. is_expired profile n (suc height)) ((unsigned_Decides made row).0 is) ∙ (due_expires profile height row due).1
due_named profile height row made due live false is = by (is_expired profile made (suc height)) refl
  where
    by : (e : Bool) → is_expired profile made (suc height) ≡ e → e ≡ false
    by true expired =
        let both : Some made ≡ Some row = sym (expires_due profile height made live expired) ∙ due in
        let same : made ≡ row = cc in
        absurd (true_is_not_false (sym ((unsigned_Decides made row).1 same) ∙ is))
    by false expired = refl

-- a live coin that expires is of that row
pub unless_expired-row : (profile : Profile) (height row : ℕ) (coin : Option Coin) → due_height profile (suc height) ≡ Some row
    → unless_expired profile height coin ≡ coin → unless_expired profile (suc height) coin ≡ unless_named_at row coin
unless_expired-row profile height row None due live = refl
unless_expired-row profile height row (Some (New hash made)) due live = refl
unless_expired-row profile height row (Some (Named name made)) due live =
    ap (λ b. cond b None (Some (Named name made))) (due_named profile height row made due (live_named profile height made name live) (made == row) refl)

-- and none expires where no row is due
pub unless_expired-none : (profile : Profile) (height : ℕ) (coin : Option Coin) → due_height profile (suc height) ≡ None
    → unless_expired profile height coin ≡ coin → unless_expired profile (suc height) coin ≡ coin
unless_expired-none profile height None undue live = refl
unless_expired-none profile height (Some (New hash made)) undue live = refl
unless_expired-none profile height (Some (Named name made)) undue live = ap (λ b. cond b None (Some (Named name made))) (stands (is_expired profile made (suc height)) refl)
  where
    stands : (e : Bool) → is_expired profile made (suc height) ≡ e → e ≡ false
    stands true expired =
        let bad : Some made ≡ None = sym (expires_due profile height made (live_named profile height made name live) expired) ∙ undue in
        absurd cc
    stands false expired = refl
