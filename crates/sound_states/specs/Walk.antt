-- Soundness as it is decided: the state at the tip is gone through once, then record by record only what the record touches is
-- looked at, and at the base all that is left is gone through once more.
use Rattle.std.specs.Prelude.{◌≡◌, ◌≢◌, ℕ, suc, ◌+◌, ◌<◌, ◌≤◌, ◌^◌, true, List, [], ◌∷◌, length, Some}
use Rattle.std.specs.List.{AllByRecursion, list_any}
use Rattle.nmc_base.specs.declared.hashes.OutPoint.{OutPoint}
use Rattle.nmc_base.specs.declared.chain_ends.Profile.{Profile}
use Rattle.nmc_base.specs.Expiry.{is_expired}
use Rattle.chain_names.specs.declared.coin.Coin.{Coin}
use Rattle.chain_names.specs.declared.coin.Coin.TheVariants.{New, Named}
use Rattle.chain_names.specs.declared.coin.Item.{Item}
use Rattle.chain_names.specs.declared.undo.UndoOp.{UndoOp}
use Rattle.chain_names.specs.declared.undo.UndoOp.TheVariants.{New as undo_new, First as undo_first, Update as undo_update}
use Rattle.chain_names.specs.Coins.{Maps, entry_of}
use Rattle.chain_names.specs.Changes.{undone}
use Rattle.chain_names.specs.Points.{same_point}
use Rattle.chain_names.specs.Verdict.{made_at}
use Rattle.chain_names.specs.State.{IsStandingCoin}
use Rattle.chain_names.specs.Sound.{BeginsRegistration}
use Rattle.chain_names.specs.Fits.{FitsState}
use Rattle.chain_names.specs.Limits.{IsWithinLimits}
use Rattle.chain_names.specs.Undo.{UndoRecord}
use Rattle.sound_states.specs.Touched.{is_changed, is_put_back, points_below}
use Rattle.sound_states.specs.OneSound.{HasItsCoin}

-- the coin isn't one that the state asks for: that of a last item that stands in the next block, unless the block made it
abbrev pub NotAskedCoin : Profile → ℕ → Maps → OutPoint → Coin → Type 0
NotAskedCoin profile tip maps point (New hash made) = Unit {0}
NotAskedCoin profile tip maps point (Named name made) =
    made ≢ tip → (item : Item) → entry_of (maps.names name) ≡ Some item → item.height ≡ made → item.at ≡ point → is_expired profile made (suc tip) ≡ true

abbrev pub NotAsked : Profile → ℕ → Maps → UndoOp → Type 0
NotAsked profile tip maps (undo_new made) = Unit {0}
NotAsked profile tip maps (undo_first made spent coin name before) = NotAskedCoin profile tip maps spent coin
NotAsked profile tip maps (undo_update made spent coin name before) = NotAskedCoin profile tip maps spent coin

-- The tip's record is undone. `maps` are those with the block, `left` those without it.
pub record IsWalkStep (profile : Profile) (tip : ℕ) (u : UndoRecord) (maps left : Maps) : Type 0 where
  pub limits : IsWithinLimits u
  pub fits : FitsState profile tip u maps
  -- before: each name that an operation changes has its coin, where its last item stands in the next block
  pub had_coin : (name : List ℕ) → is_changed name u ≡ true → HasItsCoin profile tip maps name
  -- after: each coin of a name that was put back is the name's last item, and stands in the block
  pub put_back : (point : OutPoint) (name : List ℕ) (made : ℕ) → is_put_back point u ≡ true → left.coins point ≡ Some (Named name made)
      → IsStandingCoin profile tip (left.names name) made point
  -- and before, none of the coins that operations spent was one that the state asks for already
  pub not_asked : AllByRecursion (NotAsked profile tip maps) u.ops

-- at the base: nothing is higher, and each name whose last item stands in the next block has its coin
pub record IsBottom (profile : Profile) (base : ℕ) (maps : Maps) : Type 0 where
  pub coins_low : (point : OutPoint) (coin : Coin) → maps.coins point ≡ Some coin → made_at coin ≤ base
  pub items_low : (name : List ℕ) (item : Item) → entry_of (maps.names name) ≡ Some item → item.height ≤ base
  pub have_coins : (name : List ℕ) → HasItsCoin profile base maps name
  -- and each item begins its registration
  pub registered : (name : List ℕ) → AllByRecursion BeginsRegistration (maps.names name)

abbrev pub IsWalk : Profile → ℕ → ℕ → Maps → List UndoRecord → Type 0
IsWalk profile base tip maps [] = (tip ≡ base) × IsBottom profile base maps
IsWalk profile base tip maps (u ∷ us) =
    (below : ℕ) × (tip ≡ suc below) × IsWalkStep profile tip u maps (undone u.ops u.expired maps) × IsWalk profile base below (undone u.ops u.expired maps) us

-- All coins of the state and of its records together are fewer than 2^32, as in each text of at most 2^37 bytes.
pub record HasFewCoins (maps : Maps) (us : List UndoRecord) : Type 0 where
  pub points : List OutPoint
  pub all : (point : OutPoint) (coin : Coin) → maps.coins point ≡ Some coin → list_any (same_point point) points ≡ true
  pub few : length points + length (points_below us) < 2 ^ 32
