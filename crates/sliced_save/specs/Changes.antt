-- What is done to the parts of a mirror.
use Rattle.std.specs.Prelude.{◌≡◌, ℕ, List, [], ◌∷◌, ◌++◌, length, drop, Option, Some}
use Rattle.std.specs.List.{AllByRecursion}
use Rattle.std.specs.Str.{bytes_eq}
use Rattle.nmc_base.specs.declared.hashes.OutPoint.{OutPoint}
use Rattle.chain_names.specs.Points.{same_point, changed}
use Rattle.chain_names.specs.Tables.{CoinSlots, NameSlots, coins_in, names_in}
use Rattle.chain_names.specs.Writable.{HasShortName}
use Rattle.chain_names.specs.declared.coin.Coin.{Coin}
use Rattle.chain_names.specs.declared.coin.HeldCoin.{HeldCoin}
use Rattle.chain_names.specs.declared.coin.Item.{Item}
use Rattle.chain_names.specs.declared.undo.UndoOp.{UndoOp}
use Rattle.chain_names.specs.declared.undo.UndoOp.TheVariants.{New as undo_new, First as undo_first, Update as undo_update}
use Rattle.sliced_save.specs.Rows.{HasFitRow}

-- the coin of each outpoint, and the items of each name
abbrev pub CoinsByPoint : Type 0
CoinsByPoint = OutPoint → Option Coin

abbrev pub ItemsByName : Type 0
ItemsByName = List ℕ → List Item

-- ---- forth: each outpoint that a block touched has the coin that it has in the table

abbrev pub refreshed_point : CoinSlots → OutPoint → CoinsByPoint → CoinsByPoint
refreshed_point table point coins = changed same_point coins point (coins_in table point)

abbrev pub refreshed_op : CoinSlots → UndoOp → CoinsByPoint → CoinsByPoint
refreshed_op table (undo_new made) coins = refreshed_point table made coins
refreshed_op table (undo_first made spent coin name before) coins = refreshed_point table spent (refreshed_point table made coins)
refreshed_op table (undo_update made spent coin name before) coins = refreshed_point table spent (refreshed_point table made coins)

abbrev pub refreshed_ops : CoinSlots → List UndoOp → CoinsByPoint → CoinsByPoint
refreshed_ops table [] coins = coins
refreshed_ops table (op ∷ ops) coins = refreshed_ops table ops (refreshed_op table op coins)

abbrev pub refreshed_helds : CoinSlots → List HeldCoin → CoinsByPoint → CoinsByPoint
refreshed_helds table [] coins = coins
refreshed_helds table (held ∷ helds) coins = refreshed_helds table helds (refreshed_point table held.at coins)

-- ---- forth: each name that a block gave a value has the items that it lacks

-- what stands there, and the items behind as many
abbrev pub grown : List Item → List Item → List Item
grown here there = here ++ drop (length here) there

abbrev pub grown_name : List ℕ → List Item → ItemsByName → ItemsByName
grown_name name items names = changed bytes_eq names name (grown (names name) items)

abbrev pub grown_op : NameSlots → UndoOp → ItemsByName → ItemsByName
grown_op table (undo_new made) names = names
grown_op table (undo_first made spent coin name before) names = grown_name name (names_in table name) names
grown_op table (undo_update made spent coin name before) names = grown_name name (names_in table name) names

abbrev pub grown_ops : NameSlots → List UndoOp → ItemsByName → ItemsByName
grown_ops table [] names = names
grown_ops table (op ∷ ops) names = grown_ops table ops (grown_op table op names)

-- ---- what is within its limits

abbrev pub AreShortCoins : CoinsByPoint → Type 0
AreShortCoins coins = (point : OutPoint) (coin : Coin) → coins point ≡ Some coin → HasShortName coin

abbrev pub AreFitNames : ItemsByName → Type 0
AreFitNames names = (name : List ℕ) → AllByRecursion (HasFitRow name) (names name)
