-- The whole index once more, as lists; and which index, and which chain, it is the mirror of.
use Rattle.std.specs.Prelude.{◌≡◌, ℕ, List, [], ◌∷◌, map, reverse, Option, Some, None}
use Rattle.std.specs.Cmp.Lexicographic.{slice_cmp}
use Rattle.std.specs.Ordering.{nat_cmp}
use Rattle.nmc_base.specs.Hash.{outpoint_cmp}
use Rattle.nmc_base.specs.declared.chain_ends.Base.{Base}
use Rattle.nmc_base.specs.declared.hashes.OutPoint.{OutPoint}
use Rattle.chain_names.specs.Changes.{undone}
use Rattle.chain_names.specs.Coins.{Maps}
use Rattle.chain_names.specs.Log.{Log}
use Rattle.chain_names.specs.Undo.{UndoRecord}
use Rattle.chain_names.specs.UndoOf.{AreUndos}
use Rattle.chain_names.specs.declared.coin.Coin.{Coin}
use Rattle.chain_names.specs.declared.coin.HeldCoin.{HeldCoin}
use Rattle.chain_names.specs.declared.coin.Item.{Item}
use Rattle.name_tables.specs.Tables.{maps_by}
use Rattle.chain_state.specs.Chain.{Indexed}
use Rattle.chain_state.specs.Standing.{chain_maps}
use Rattle.image_grammar.specs.Image.{Image, History}
use Rattle.shared_chunks.specs.Pairs.{value_at}

-- each coin behind its outpoint, in the order of outpoints
abbrev pub CoinPairs : Type 0
CoinPairs = List (OutPoint × Coin)

-- the items of each name behind the name, in the order of names
abbrev pub NamePairs : Type 0
NamePairs = List (List ℕ × List Item)

pub record Mirrored : Type 0 where
  pub base : Base
  -- what undoes its blocks, the oldest first
  pub undos : List UndoRecord
  pub coins : CoinPairs
  pub names : NamePairs

-- ---- what it says

abbrev pub coin_at : CoinPairs → OutPoint → Option Coin
coin_at coins = λ point. value_at outpoint_cmp coins point

abbrev pub items_or : Option (List Item) → List Item
items_or None = []
items_or (Some items) = items

abbrev pub items_at : NamePairs → List ℕ → List Item
items_at names = λ name. items_or (value_at (slice_cmp nat_cmp) names name)

abbrev pub maps_at : CoinPairs → NamePairs → Maps
maps_at coins names = record { coins = coin_at coins; names = items_at names }

abbrev pub maps_in : Mirrored → Maps
maps_in m = maps_at m.coins m.names

-- ---- its image

abbrev pub held_pair : OutPoint × Coin → HeldCoin
held_pair pair = record { at = pair.0; coin = pair.1 }

abbrev pub history_pair : List ℕ × List Item → History
history_pair pair = record { name = pair.0; items = pair.1 }

abbrev pub mirror_image : Mirrored → Image
mirror_image m = record { base = m.base; undos = m.undos; coins = map held_pair m.coins; names = map history_pair m.names }

-- ---- of what it is the mirror

-- the records are given with the newest first
pub record IsMirrorOf (base : Base) (undos : List UndoRecord) (maps : Maps) (m : Mirrored) : Type 0 where
  pub base_is : m.base ≡ base
  pub undos_are : m.undos ≡ reverse undos
  pub maps_are : maps_in m ≡ maps

-- what an index is
abbrev pub MirrorsIndex : Indexed → Mirrored → Type 0
MirrorsIndex c m = IsMirrorOf c.base c.undos (maps_by c.tables) m

-- the records below the newest one, and the maps that it leads back to
abbrev pub undos_below : List UndoRecord → List UndoRecord
undos_below [] = []
undos_below (undo ∷ undos) = undos

abbrev pub maps_below : List UndoRecord → Maps → Maps
maps_below [] maps = maps
maps_below (undo ∷ undos) maps = undone undo.ops undo.expired maps

-- what it was before its newest block joined it
abbrev pub MirrorsBefore : Indexed → Mirrored → Type 0
MirrorsBefore c m = IsMirrorOf c.base (undos_below c.undos) (maps_below c.undos (maps_by c.tables)) m

-- what the log of a chain says, and the records of its blocks
pub record MirrorsChain (base : Base) (start : Log) (blocks : List (List ℕ)) (m : Mirrored) : Type 0 where
  pub undos : List UndoRecord
  pub are_undos : AreUndos base.profile start base.height blocks undos
  pub is : IsMirrorOf base undos (chain_maps base start blocks) m
