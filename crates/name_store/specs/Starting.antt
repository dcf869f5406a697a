-- Files that begin with a start list: the index that they are made from, the text that they get, and what making them answers.
use Rattle.std.specs.Prelude.{◌≡◌, ℕ, ◌≤◌, List, [], ◌∷◌, length, Some, Result, Ok, Err, ⊤}
use Rattle.nmc_base.specs.declared.chain_ends.Base.{Base}
use Rattle.nmc_base.specs.declared.hashes.OutPoint.{OutPoint}
use Rattle.disk_model.specs.FileState.{FileState}
use Rattle.chain_names.specs.Index.{index_maps}
use Rattle.chain_names.specs.Log.{Log}
use Rattle.chain_names.specs.Start.{IsStart}
use Rattle.chain_names.specs.Tables.{CoinSlots, coins_in, queued_in, queue_of}
use Rattle.chain_names.specs.declared.coin.Coin.{Coin}
use Rattle.chain_commands.specs.RunState.{on_base}
use Rattle.chain_commands.specs.Saving.{IsTextOf, longest_image}
use Rattle.chain_state.specs.Chain.{Indexed, indexed_of, kept_tip}
use Rattle.image_files.specs.SavingIndex.{IsTextOfIndex}
use Rattle.name_tables.specs.Parts.{tables_of}
use Rattle.name_tables.specs.Tables.{maps_by, AreFilled}
use Rattle.name_tables.specs.declared.parts.Parts.{Parts}
use Rattle.undo_records.specs.declared.version.Version.TheVariants.{Two}
use Rattle.saved_widths.specs.Wide.{HaveWidePoints}
use Rattle.name_store.specs.Header.{IsInitialised, IsUninitialised}
use Rattle.name_store.specs.MakingSteps.{HasSettled, area_with}
use Rattle.name_store.specs.Stands.{Bytes}
use Rattle.name_store.specs.declared.faults.CreateFromFault.{CreateFromFault}
use Rattle.name_store.specs.declared.faults.CreateFromFault.TheVariants.{Initialised, DiskFault, NoMemory}

-- ---- the index

-- the parts are the index of the chain of no blocks that starts with this list
pub record IsStartIndex (base : Base) (start : Log) (parts : Parts) : Type 0 where
  pub is_start : IsStart base.profile base.height start
  pub maps_are : maps_by (tables_of parts) ≡ index_maps base.profile start base.height []
  pub queue : queued_in parts.queue ≡ queue_of (coins_in parts.coins)
  pub filled : AreFilled (tables_of parts)
  pub no_undos : parts.undos.items ≡ []

-- the index of these parts
abbrev pub start_index : Base → Parts → Indexed
start_index base parts = indexed_of base (kept_tip base parts) parts

-- some outpoint has a coin
pub record HasCoin (slots : CoinSlots) : Type 0 where
  pub point : OutPoint
  pub coin : Coin
  pub is_there : coins_in slots point ≡ Some coin

-- ---- the text

-- the text of a start list's index, in version 2; and none where the list is empty
abbrev pub IsStartText : Base → Log → List ℕ → Type 0
IsStartText base [] text = text ≡ []
IsStartText base (event ∷ start) text = IsTextOf Two (on_base base (event ∷ start)) text

-- whichever list the parts are the index of, the text of its index is no longer than an image may be
abbrev pub HasShortText : Base → Parts → Type 0
HasShortText base parts = (start : Log) → IsStartIndex base start parts → (text : List ℕ) → IsTextOf Two (on_base base start) text → length text ≤ longest_image

-- this is the text of the index, and so many bytes long
pub record IsStartImage (base : Base) (parts : Parts) (text : List ℕ) (size : ℕ) : Type 0 where
  pub is_text : IsTextOfIndex (start_index base parts) text
  pub size_is : size ≡ length text
  pub short : size ≤ longest_image

-- the text that files of a start list have, whose outpoints are as wide as their fields
pub record HasStartText (base : Base) (start : Log) (text : List ℕ) : Type 0 where
  pub is_start : IsStart base.profile base.height start
  pub wide : HaveWidePoints start
  pub is_text : IsStartText base start text
  pub short : length text ≤ longest_image

-- an area with this text and without commands
pub record HasStartArea (base : Base) (start : Log) (file : FileState) : Type 0 where
  pub text : List ℕ
  pub has_text : HasStartText base start text
  pub area : HasSettled (area_with text) file

-- ---- the answer

-- Files that are initialised are left as they are; others are made, or left for want of memory.
abbrev pub CreateFromAnswer : Bytes → Result (Unit {0}) CreateFromFault → Type 0
CreateFromAnswer old (Ok done) = IsUninitialised (old 0)
CreateFromAnswer old (Err Initialised) = IsInitialised (old 0)
CreateFromAnswer old (Err DiskFault) = ⊤
CreateFromAnswer old (Err NoMemory) = IsUninitialised (old 0)
