-- What a block does to a mirror, and what takes it back.
use Rattle.std.specs.Prelude.{◌≡◌, ◌-◌, List, [], ◌∷◌, ◌++◌, length, reverse, take, Option, Some, None}
use Rattle.chain_names.specs.Tables.{CoinSlots, NameSlots}
use Rattle.chain_names.specs.Undo.{UndoRecord}
use Rattle.sliced_save.specs.Changes.{refreshed_ops, refreshed_helds, grown_ops}
use Rattle.sliced_save.specs.Mirror.{Mirrored, coin_at, items_at, maps_below, maps_in}

-- the record of the newest block
abbrev pub newest_of : List UndoRecord → Option UndoRecord
newest_of [] = None
newest_of (undo ∷ undos) = Some undo

-- what the block of this record touched is as in the tables, and the record stands above
pub record IsForth (old : Mirrored) (coins : CoinSlots) (names : NameSlots) (undo : UndoRecord) (new : Mirrored) : Type 0 where
  pub base : new.base ≡ old.base
  pub undos : new.undos ≡ old.undos ++ undo ∷ []
  pub coins_are : coin_at new.coins ≡ refreshed_helds coins undo.expired (refreshed_ops coins undo.ops (coin_at old.coins))
  pub names_are : items_at new.names ≡ grown_ops names undo.ops (items_at old.names)

-- what the record above undoes is undone, and it is gone
pub record IsBack (old new : Mirrored) : Type 0 where
  pub base : new.base ≡ old.base
  pub undos : new.undos ≡ take (length old.undos - 1) old.undos
  pub maps : maps_in new ≡ maps_below (reverse old.undos) (maps_in old)
