-- What is known of the parts of a mirror: they are in order, within their limits, as wide as their fields, and so long in an image.
use Rattle.std.specs.Prelude.{◌≡◌, ◌≢◌, ℕ, ◌≤◌, List, [], length, map}
use Rattle.std.specs.Cmp.Lexicographic.{slice_cmp}
use Rattle.std.specs.List.{AllByRecursion, flat_map}
use Rattle.std.specs.Ordering.{nat_cmp}
use Rattle.nmc_base.specs.Hash.{outpoint_cmp}
use Rattle.nmc_base.specs.Heights.{highest}
use Rattle.nmc_base.specs.declared.hashes.OutPoint.{OutPoint}
use Rattle.nmc_base.specs.declared.limits.TheConstants.{LONGEST_VALUE}
use Rattle.chain_names.specs.Limits.{IsWithinLimits}
use Rattle.chain_names.specs.Measured.{IsMeasuredCoin, IsMeasuredItem}
use Rattle.chain_names.specs.Undo.{UndoRecord}
use Rattle.chain_names.specs.Writable.{HasShortName, IsWritableName}
use Rattle.chain_names.specs.declared.coin.Coin.{Coin}
use Rattle.chain_names.specs.declared.coin.Item.{Item}
use Rattle.undo_records.specs.Measured.{IsMeasured}
use Rattle.undo_records.specs.Text.{held_text, undo_text}
use Rattle.undo_records.specs.declared.version.Version.TheVariants.{Two}
use Rattle.image_grammar.specs.Text.{history_text}
use Rattle.shared_chunks.specs.Pairs.{AreInOrder}
use Rattle.sliced_save.specs.Mirror.{CoinPairs, Mirrored, NamePairs, held_pair, history_pair}

-- ---- records

pub record IsKeptUndo (undo : UndoRecord) : Type 0 where
  pub limits : IsWithinLimits undo
  pub measured : IsMeasured undo

abbrev pub AreKeptUndos : List UndoRecord → Type 0
AreKeptUndos undos = AllByRecursion IsKeptUndo undos

abbrev pub undos_length : List UndoRecord → ℕ
undos_length undos = length (flat_map (undo_text Two) undos)

-- ---- coins

pub record IsKeptCoin (pair : OutPoint × Coin) : Type 0 where
  pub short : HasShortName pair.1
  pub measured : IsMeasuredCoin pair.0 pair.1

pub record AreKeptCoins (coins : CoinPairs) : Type 0 where
  pub order : AreInOrder outpoint_cmp coins
  pub each : AllByRecursion IsKeptCoin coins

abbrev pub coins_length : CoinPairs → ℕ
coins_length coins = length (flat_map held_text (map held_pair coins))

-- ---- names

abbrev pub IsLowItem : Item → Type 0
IsLowItem item = item.height ≤ highest

pub record IsKeptItem (item : Item) : Type 0 where
  pub short : length item.value ≤ LONGEST_VALUE
  pub low : IsLowItem item
  pub measured : IsMeasuredItem item

pub record IsKeptName (pair : List ℕ × List Item) : Type 0 where
  pub short : IsWritableName pair.0
  pub some : pair.1 ≢ []
  pub items : AllByRecursion IsKeptItem pair.1

pub record AreKeptNames (names : NamePairs) : Type 0 where
  pub order : AreInOrder (slice_cmp nat_cmp) names
  pub each : AllByRecursion IsKeptName names

abbrev pub names_length : NamePairs → ℕ
names_length names = length (flat_map (history_text Two) (map history_pair names))

-- ---- the whole

pub record IsKept (m : Mirrored) : Type 0 where
  pub hash : length m.base.hash.0 ≡ 32
  pub undos : AreKeptUndos m.undos
  pub coins : AreKeptCoins m.coins
  pub names : AreKeptNames m.names
