-- The state below some blocks: the tables, and over them what undoing the blocks changed.
use Rattle.std.specs.Prelude.{ℕ, Bool, List, take, Option, Some, None}
use Rattle.std.specs.Borrow.{Bor}
use Rattle.std.specs.Map.{lookup}
use Rattle.std.specs.Option.{option_copied}
use Rattle.std.specs.Str.{bytes_eq}
use Rattle.std.specs.declared.vec.Vec.{Vec}
use Rattle.nmc_base.specs.declared.hashes.OutPoint.{OutPoint}
use Rattle.chain_names.specs.declared.coin.Coin.{Coin}
use Rattle.chain_names.specs.declared.coin.Item.{Item}
use Rattle.chain_names.specs.Points.{same_point}
use Rattle.chain_names.specs.Tables.{coins_in, names_in}
use Rattle.states_below.specs.declared.coins_below.CoinsBelow.{CoinsBelow}
use Rattle.states_below.specs.declared.names_below.NamesBelow.{NamesBelow}

-- what lies over the outpoint, or else the coin of the table
abbrev pub coin_over : Option Coin → Option (Option (Bor Coin)) → Option Coin
coin_over under None = under
coin_over under (Some over) = option_copied over

abbrev pub coins_below : CoinsBelow → OutPoint → Option Coin
coins_below v = λ point. coin_over (coins_in v.under.now point) (lookup (same_point point) v.over.entries)

-- so many of the first items, where a number lies over the name
abbrev pub items_over : List Item → Option ℕ → List Item
items_over under None = under
items_over under (Some count) = take count under

-- the key has these bytes
abbrev pub has_bytes : {A : Type 0} → List ℕ → Vec ℕ A → Bool
has_bytes name key = bytes_eq name key.items

abbrev pub names_below : NamesBelow → List ℕ → List Item
names_below v = λ name. items_over (names_in v.under.now name) (lookup (has_bytes name) v.left.entries)
