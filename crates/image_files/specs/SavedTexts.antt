-- A saved text, and the index of its state.
use Rattle.std.specs.Prelude.{◌≡◌, ℕ, ◌+◌, List, length}
use Rattle.nmc_base.specs.declared.chain_ends.Base.{Base}
use Rattle.chain_names.specs.Coins.{Maps}
use Rattle.chain_names.specs.Sound.{IsSound}
use Rattle.chain_names.specs.Tables.{coins_in, queued_in, queue_of}
use Rattle.chain_names.specs.Undo.{UndoRecord}
use Rattle.name_tables.specs.Tables.{maps_by, AreFilled}
use Rattle.undo_records.specs.declared.version.Version.{Version}
use Rattle.image_grammar.specs.Image.{HasText}
use Rattle.image_grammar.specs.Text.{IsStateText}
use Rattle.chain_state.specs.Chain.{Indexed, newest_hash}

-- The state is sound with the records that undo the blocks on this base, the newest first. This is its text, in either version: that of
-- an image that is read again.
pub record IsSavedText (version : Version) (base : Base) (undos : List UndoRecord) (maps : Maps) (text : List ℕ) : Type 0 where
  pub is_text : IsStateText version base undos maps text
  pub has_text : HasText is_text.image
  pub tip : ℕ
  pub sound : IsSound base.profile base.height tip maps undos

-- the index of a state with these records
pub record IsIndexOfState (base : Base) (undos : List UndoRecord) (maps : Maps) (index : Indexed) : Type 0 where
  pub base_is : index.base ≡ base
  pub height : index.tip.height ≡ base.height + length undos
  pub hash : index.tip.hash ≡ newest_hash base undos
  pub maps_are : maps_by index.tables ≡ maps
  pub queue : queued_in index.tables.queue ≡ queue_of (coins_in index.tables.coins)
  pub undos_are : index.undos ≡ undos
  pub filled : AreFilled index.tables
