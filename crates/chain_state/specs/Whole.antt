-- Work that was done for a whole block, and the coins that expired with it.
use Rattle.std.specs.Prelude.{◌≡◌, ℕ, suc, ◌+◌, ◌≤◌, ◌||◌, List, [], length}
use Rattle.std.specs.Option.{is_some}
use Rattle.std.specs.List.{list_any, AllByRecursion}
use Rattle.nmc_base.specs.declared.chain_ends.Profile.{Profile}
use Rattle.chain_names.specs.declared.coin.HeldCoin.{HeldCoin}
use Rattle.chain_names.specs.Coins.{Maps}
use Rattle.chain_names.specs.Changes.{restored, back_ops, without_expired}
use Rattle.chain_names.specs.Tables.{coins_in, coin_places, names_in, queued_in, queue_places, queue_of, FilledBut, AreNamesFilled}
use Rattle.chain_names.specs.Fits.{AreUndoable}
use Rattle.name_tables.specs.Tables.{AreFilled}
use Rattle.name_tables.specs.Tables.{maps_by}
use Rattle.chain_state.specs.Work.{HasSpentPlace, HasSpentRow, may_be_empty, may_be_empty_at}
use Rattle.name_tables.specs.Expiring.{CanReturn}
use Rattle.chain_names.specs.Expired.{is_held_at, IsDue, IsSortedByPoint}
use Rattle.name_tables.specs.Places.{is_queued_at}
use Rattle.name_tables.specs.declared.tables.Tables.{Tables}
use Rattle.chain_state.specs.declared.work.Work.{Work}
use Rattle.chain_state.specs.declared.whole.Whole.{Whole}
use Rattle.chain_state.specs.declared.whole.Committed.{Committed}

-- the maps with the coins back that expired
abbrev pub maps_returned : Tables → List HeldCoin → Maps
maps_returned t expired = record { coins = restored expired (coins_in t.coins); names = names_in t.names }

pub record IsWhole (w : Whole) : Type 0 where
  pub queue : queued_in w.work.tables.queue ≡ queue_of (coins_in w.work.tables.coins)
  pub fits : AreUndoable w.work.height w.work.ops.items (maps_returned w.work.tables w.expired.items)
  pub spent_placed : AllByRecursion (HasSpentPlace w.work.tables) w.work.ops.items
  pub spent_rows : AllByRecursion (HasSpentRow w.work.tables) w.work.ops.items
  pub coins_filled : FilledBut (λ point. may_be_empty w.work.ops.items w.work.empty.items point || list_any (is_held_at point) w.expired.items) (coin_places w.work.tables.coins) (λ point. is_some (coins_in w.work.tables.coins point))
  pub queue_filled : (height : ℕ) → FilledBut (λ point. may_be_empty_at w.work.height w.work.ops.items w.work.empty.items height point || list_any (is_queued_at height point) w.expired.items) (queue_places w.work.tables.queue height) (queued_in w.work.tables.queue height)
  pub names_filled : AreNamesFilled w.work.tables.names
  pub none_empty : w.work.empty.items ≡ []
  pub room : length w.work.ops.items + 1 ≤ w.work.empty.spare
  pub row : ℕ
  pub returns : AllByRecursion (CanReturn w.work.tables row) w.expired.items

-- the block's work is whole: the coins that are expired in the next block are gone, and can be put back
pub record Finishes (profile : Profile) (old : Work) (w : Whole) : Type 0 where
  pub height : w.work.height ≡ old.height
  pub ops : w.work.ops ≡ old.ops
  pub maps : maps_by w.work.tables ≡ without_expired profile (suc old.height) (maps_by old.tables)
  pub before : back_ops w.work.ops.items (maps_returned w.work.tables w.expired.items) ≡ back_ops old.ops.items (maps_by old.tables)
  pub due : IsDue (coins_in old.tables.coins) (coins_in w.work.tables.coins) w.expired.items
  pub sorted : IsSortedByPoint w.expired.items
  pub whole : IsWhole w

-- the maps before the block
abbrev pub maps_before_block : Whole → Maps
maps_before_block w = back_ops w.work.ops.items (maps_returned w.work.tables w.expired.items)

-- the maps stay, each place holds something, and what undoes the block is handed out
pub record Commits (old : Whole) (new : Committed) : Type 0 where
  pub maps : maps_by new.tables ≡ maps_by old.work.tables
  pub queue : queued_in new.tables.queue ≡ queue_of (coins_in new.tables.coins)
  pub filled : AreFilled new.tables
  pub ops : new.ops ≡ old.work.ops
  pub expired : new.expired ≡ old.expired
