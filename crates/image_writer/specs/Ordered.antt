-- The lists of an image are those of a table's places, in order.
use Rattle.std.specs.Prelude.{◌≡◌, ℕ, List, [], ◌∷◌, map, Option, Some, None}
use Rattle.std.specs.Cmp.Lexicographic.{slice_cmp}
use Rattle.std.specs.List.{AllByRecursion}
use Rattle.std.specs.List.Sorted.{IsStrictlySortedBy}
use Rattle.std.specs.Map.{keys_of}
use Rattle.std.specs.Ordering.{nat_cmp}
use Rattle.nmc_base.specs.declared.hashes.OutPoint.{OutPoint}
use Rattle.chain_names.specs.declared.coin.Coin.{Coin}
use Rattle.chain_names.specs.declared.coin.HeldCoin.{HeldCoin}
use Rattle.chain_names.specs.Expired.{IsSortedByPoint}
use Rattle.chain_names.specs.Tables.{CoinSlots, NameSlots, coins_in, names_in}
use Rattle.image_grammar.specs.Image.{History, coins_listed, names_listed, names_of, HasItems}

-- ---- the places

abbrev pub held_by : OutPoint → Option Coin → List HeldCoin → List HeldCoin
held_by at None helds = helds
held_by at (Some coin) helds = record { at = at; coin = coin } ∷ helds

-- each coin, in the order of the places
abbrev pub held_in : CoinSlots → List HeldCoin
held_in [] = []
held_in (slot ∷ slots) = held_by slot.0 slot.1 (held_in slots)

-- a name with its items
abbrev pub history_in : NameSlots → List ℕ → History
history_in slots name = record { name = name; items = names_in slots name }

-- each name, in the order of the places
abbrev pub histories_in : NameSlots → List History
histories_in slots = map (history_in slots) (keys_of slots)

-- ---- in order

-- the coins of the table, in the order of their outpoints
pub record ListsCoins (slots : CoinSlots) (helds : List HeldCoin) : Type 0 where
  pub maps : coins_listed helds ≡ coins_in slots
  pub sorted : IsSortedByPoint helds

-- the names of the table, in the order of their bytes, each with its items
pub record ListsNames (slots : NameSlots) (hs : List History) : Type 0 where
  pub maps : names_listed hs ≡ names_in slots
  pub sorted : IsStrictlySortedBy (slice_cmp nat_cmp) (names_of hs)
  pub some : AllByRecursion HasItems hs
