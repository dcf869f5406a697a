-- The places of what operations spent and of coins that expired, which may hold nothing for a while.
use Rattle.std.specs.Prelude.{ℕ, Bool, false, ◌||◌, ◌&&◌, List, Some}
use Rattle.std.specs.Option.{is_some}
use Rattle.std.specs.List.{list_any}
use Rattle.nmc_base.specs.declared.hashes.OutPoint.{OutPoint}
use Rattle.chain_names.specs.declared.coin.HeldCoin.{HeldCoin}
use Rattle.chain_names.specs.declared.undo.UndoOp.{UndoOp}
use Rattle.chain_names.specs.declared.undo.UndoOp.TheVariants.{New as undo_new, First as undo_first, Update as undo_update}
use Rattle.chain_names.specs.Points.{same_point}
use Rattle.chain_names.specs.Tables.{coins_in, coin_places, queued_in, queue_places, is_named_at, FilledBut, AreNamesFilled}
use Rattle.chain_names.specs.Expired.{is_held_at}
use Rattle.name_tables.specs.declared.tables.Tables.{Tables}

-- the operation spent the outpoint
abbrev pub spends : OutPoint → UndoOp → Bool
spends point (undo_new made) = false
spends point (undo_first made spent coin name before) = same_point spent point
spends point (undo_update made spent coin name before) = same_point spent point

-- and the coin there was a name's, of this height
abbrev pub spends_at : ℕ → OutPoint → UndoOp → Bool
spends_at height point (undo_new made) = false
spends_at height point (undo_first made spent coin name before) = is_named_at height (Some coin) && same_point spent point
spends_at height point (undo_update made spent coin name before) = is_named_at height (Some coin) && same_point spent point

-- the coin expired at this outpoint, and was a name's of this height
abbrev pub is_queued_at : ℕ → OutPoint → HeldCoin → Bool
is_queued_at height point held = same_point held.at point && is_named_at height (Some held.coin)

-- each place holds something, but for those of what these operations spent and of these coins
pub record AreFilledBut (t : Tables) (ops : List UndoOp) (expired : List HeldCoin) : Type 0 where
  pub coins : FilledBut (λ point. list_any (spends point) ops || list_any (is_held_at point) expired) (coin_places t.coins) (λ point. is_some (coins_in t.coins point))
  pub queue : (height : ℕ) → FilledBut (λ point. list_any (spends_at height point) ops || list_any (is_queued_at height point) expired) (queue_places t.queue height) (queued_in t.queue height)
  pub names : AreNamesFilled t.names
