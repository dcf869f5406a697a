-- Room for undoing a block: the places of what its operations spent and of the coins that expired with it.
use Rattle.std.specs.Prelude.{◌≡◌, ℕ, ◌+◌, ◌≤◌, Bool, true, List, [], length}
use Rattle.std.specs.List.{AllByRecursion}
use Rattle.nmc_base.specs.declared.hashes.OutPoint.{OutPoint}
use Rattle.nmc_base.specs.Roomy.{Roomy}
use Rattle.chain_names.specs.declared.coin.HeldCoin.{HeldCoin}
use Rattle.chain_names.specs.declared.undo.UndoOp.{UndoOp}
use Rattle.chain_names.specs.Tables.{coin_places, queue_places}
use Rattle.chain_names.specs.Expired.{is_held_at}
use Rattle.name_tables.specs.Tables.{HoldSame}
use Rattle.name_tables.specs.Places.{spends, spends_at, is_queued_at, AreFilledBut}
use Rattle.name_tables.specs.declared.tables.Tables.{Tables}

-- a member of a list has its places: at which outpoints, and at which in a row
pub record IsPlaced {X : Type 0} (at : OutPoint → X → Bool) (row : ℕ → OutPoint → X → Bool) (t : Tables) (x : X) : Type 0 where
  pub coin : (point : OutPoint) → at point x ≡ true → coin_places t.coins point ≡ true
  pub rows : (height : ℕ) (point : OutPoint) → row height point x ≡ true → queue_places t.queue height point ≡ true

-- all places are there and no others are new, and there is an empty list with room for the outpoints that are emptied
pub record HasRoom (old new : Tables) (ops : List UndoOp) (expired : List HeldCoin) (empty : Roomy OutPoint) : Type 0 where
  pub same : HoldSame old new
  pub filled : AreFilledBut new ops expired
  pub spent : AllByRecursion (IsPlaced spends spends_at new) ops
  pub held : AllByRecursion (IsPlaced is_held_at is_queued_at new) expired
  pub none : empty.items ≡ []
  pub room : length ops + 1 ≤ empty.spare
