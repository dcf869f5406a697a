-- What the log says of an outpoint and of a name: the live coin, and the history.
use Rattle.std.specs.Prelude.{ℕ, List, [], ◌∷◌, ◌++◌, Option, Some, None, if◌then◌else◌}
use Rattle.std.specs.Str.{bytes_eq}
use Rattle.name_script.specs.NameScript.{NameOperation, name_new, name_firstupdate, name_update}
use Rattle.nmc_base.specs.declared.hashes.OutPoint.{OutPoint}
use Rattle.nmc_base.specs.declared.chain_ends.Profile.{Profile}
use Rattle.nmc_base.specs.Expiry.{is_expired}
use Rattle.chain_names.specs.declared.coin.Coin.{Coin}
use Rattle.chain_names.specs.declared.coin.Coin.TheVariants.{New, Named}
use Rattle.chain_names.specs.declared.coin.Item.{Item}
use Rattle.chain_names.specs.Points.{same_point, changed}
use Rattle.chain_names.specs.Log.{Log, Spend, Make}

-- the coin of an output with a name script
abbrev pub coin_of : NameOperation → ℕ → Coin
coin_of (name_new hash) height = New (record { 0 = hash }) height
coin_of (name_firstupdate name rand value) height = Named name height
coin_of (name_update name value) height = Named name height

-- The coin at each outpoint: where the last event that names it is a Make, that one.
abbrev pub coin_now : Log → OutPoint → Option Coin
coin_now [] = λ point. None
coin_now (Spend point ∷ log) = changed same_point (coin_now log) point None
coin_now (Make point operation height ∷ log) = changed same_point (coin_now log) point (Some (coin_of operation height))

abbrev pub unless_expired : Profile → ℕ → Option Coin → Option Coin
unless_expired profile height None = None
unless_expired profile height (Some (New hash made)) = Some (New hash made)
unless_expired profile height (Some (Named name made)) = if is_expired profile made height then None else Some (Named name made)

-- the live coin at each outpoint at a height: one that isn't expired there
abbrev pub live_coin : Profile → Log → ℕ → OutPoint → Option Coin
live_coin profile log height = λ point. unless_expired profile height (coin_now log point)

-- the last value of a history
abbrev pub entry_of : List Item → Option Item
entry_of [] = None
entry_of (item ∷ []) = Some item
entry_of (item ∷ next ∷ items) = entry_of (next ∷ items)

-- the value that opens a name: its registration begins with it
abbrev pub opened : ℕ → OutPoint → List ℕ → Item
opened height point value = record { height = height; registered = height; at = point; value = value }

-- the height at which the registration of a value began: that of the value before, if there is one
abbrev pub registered_behind : Option Item → ℕ → ℕ
registered_behind None height = height
registered_behind (Some before) height = before.registered

-- the value that updates a name, behind the value before
abbrev pub updated : Option Item → ℕ → OutPoint → List ℕ → Item
updated before height point value = record { height = height; registered = registered_behind before height; at = point; value = value }

-- the histories with one value more, of this name
abbrev pub with_value : (List ℕ → List Item) → List ℕ → Item → List ℕ → List Item
with_value names name item = changed bytes_eq names name (names name ++ item ∷ [])

-- the histories behind an output of this height
abbrev pub with_operation : (List ℕ → List Item) → OutPoint → NameOperation → ℕ → List ℕ → List Item
with_operation names point (name_new hash) height = names
with_operation names point (name_firstupdate name rand value) height = with_value names name (opened height point value)
with_operation names point (name_update name value) height = with_value names name (updated (entry_of (names name)) height point value)

-- the history of each name: the values that it was given, the oldest first
abbrev pub history_of : Log → List ℕ → List Item
history_of [] = λ name. []
history_of (Spend point ∷ log) = history_of log
history_of (Make point operation height ∷ log) = with_operation (history_of log) point operation height

-- what the rules look at: the live coins at a height, and the histories
pub record Maps : Type 0 where
  pub coins : OutPoint → Option Coin
  pub names : List ℕ → List Item

abbrev pub maps_of : Profile → Log → ℕ → Maps
maps_of profile log height = record { coins = live_coin profile log height; names = history_of log }
