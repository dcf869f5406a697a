-- The places of one coin are given up.
use Rattle.std.specs.Prelude.{◌≡◌, ℕ, Bool, true, false, ◌&&◌, Some}
use Rattle.std.specs.Option.{is_some}
use Rattle.nmc_base.specs.declared.hashes.OutPoint.{OutPoint}
use Rattle.chain_names.specs.declared.coin.Coin.{Coin}
use Rattle.chain_names.specs.declared.undo.UndoOp.{UndoOp}
use Rattle.chain_names.specs.declared.undo.UndoOp.TheVariants.{New as undo_new, First as undo_first, Update as undo_update}
use Rattle.chain_names.specs.Points.{same_point, changed}
use Rattle.chain_names.specs.Tables.{coins_in, coin_places, queued_in, queue_places, is_named_at}
use Rattle.name_tables.specs.declared.tables.Tables.{Tables}

-- the coin stood at the outpoint, in a row of this height
abbrev pub is_row_of : Coin → OutPoint → ℕ → OutPoint → Bool
is_row_of coin at height point = is_named_at height (Some coin) && same_point at point

-- the places of a coin that stood at the outpoint are gone, unless they hold something
pub record GivesUp (old new : Tables) (at : OutPoint) (coin : Coin) : Type 0 where
  pub coins_same : coins_in new.coins ≡ coins_in old.coins
  pub queue_same : queued_in new.queue ≡ queued_in old.queue
  pub names : new.names ≡ old.names
  pub coins : coin_places new.coins ≡ changed same_point (coin_places old.coins) at (is_some (coins_in old.coins at))
  pub row : (height : ℕ) (point : OutPoint) → is_row_of coin at height point ≡ true → queue_places new.queue height point ≡ queued_in old.queue height point
  pub rows : (height : ℕ) (point : OutPoint) → is_row_of coin at height point ≡ false → queue_places new.queue height point ≡ queue_places old.queue height point

-- the places of what an operation spent
abbrev pub GivesUpOp : Tables → Tables → UndoOp → Type 0
GivesUpOp old new (undo_new made) = new ≡ old
GivesUpOp old new (undo_first made spent coin name before) = GivesUp old new spent coin
GivesUpOp old new (undo_update made spent coin name before) = GivesUp old new spent coin
