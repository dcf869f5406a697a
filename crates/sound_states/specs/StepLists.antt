-- A step of the walk as it is looked at: operation by operation, and coin by coin.
use Rattle.std.specs.Prelude.{ℕ, Option, Some, None}
use Rattle.std.specs.List.{AllByRecursion}
use Rattle.nmc_base.specs.declared.hashes.OutPoint.{OutPoint}
use Rattle.nmc_base.specs.declared.chain_ends.Profile.{Profile}
use Rattle.chain_names.specs.declared.coin.Coin.{Coin}
use Rattle.chain_names.specs.declared.coin.Coin.TheVariants.{New, Named}
use Rattle.chain_names.specs.declared.coin.HeldCoin.{HeldCoin}
use Rattle.chain_names.specs.declared.undo.UndoOp.{UndoOp}
use Rattle.chain_names.specs.declared.undo.UndoOp.TheVariants.{New as undo_new, First as undo_first, Update as undo_update}
use Rattle.chain_names.specs.Coins.{Maps}
use Rattle.chain_names.specs.State.{IsStandingCoin}
use Rattle.chain_names.specs.Fits.{FitsState}
use Rattle.chain_names.specs.Limits.{IsWithinLimits}
use Rattle.chain_names.specs.Undo.{UndoRecord}
use Rattle.sound_states.specs.Walk.{NotAsked}
use Rattle.sound_states.specs.OneSound.{HasItsCoin}

-- the name that the operation changed has its coin
abbrev pub HadCoin : Profile → ℕ → Maps → UndoOp → Type 0
HadCoin profile tip maps (undo_new made) = Unit {0}
HadCoin profile tip maps (undo_first made spent coin name before) = HasItsCoin profile tip maps name
HadCoin profile tip maps (undo_update made spent coin name before) = HasItsCoin profile tip maps name

-- the coin, where it is a name's, is the name's last item and stands in the block
abbrev pub StandsIfNamed : Profile → ℕ → Maps → OutPoint → Option Coin → Type 0
StandsIfNamed profile tip left point None = Unit {0}
StandsIfNamed profile tip left point (Some (New hash made)) = Unit {0}
StandsIfNamed profile tip left point (Some (Named name made)) = IsStandingCoin profile tip (left.names name) made point

abbrev pub PointStands : Profile → ℕ → Maps → OutPoint → Type 0
PointStands profile tip left point = StandsIfNamed profile tip left point (left.coins point)

abbrev pub SpentStands : Profile → ℕ → Maps → UndoOp → Type 0
SpentStands profile tip left (undo_new made) = Unit {0}
SpentStands profile tip left (undo_first made spent coin name before) = PointStands profile tip left spent
SpentStands profile tip left (undo_update made spent coin name before) = PointStands profile tip left spent

abbrev pub HeldStands : Profile → ℕ → Maps → HeldCoin → Type 0
HeldStands profile tip left held = PointStands profile tip left held.at

pub record IsStepByLists (profile : Profile) (tip : ℕ) (u : UndoRecord) (maps left : Maps) : Type 0 where
  pub limits : IsWithinLimits u
  pub fits : FitsState profile tip u maps
  pub had_coin : AllByRecursion (HadCoin profile tip maps) u.ops
  pub not_asked : AllByRecursion (NotAsked profile tip maps) u.ops
  pub spent : AllByRecursion (SpentStands profile tip left) u.ops
  pub expired : AllByRecursion (HeldStands profile tip left) u.expired
