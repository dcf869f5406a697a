-- What contracts see of the tables: the keys that have a place, each with what it holds, and the maps that are read off.
use Rattle.std.specs.Prelude.{◌≡◌, ℕ, Bool, true, false, ◌==◌, List, [], Option, Some, None, nat_eq}
use Rattle.std.specs.Option.{is_some}
use Rattle.std.specs.Map.{lookup, keys_of}
use Rattle.std.specs.Str.{bytes_eq}
use Rattle.nmc_base.specs.declared.hashes.OutPoint.{OutPoint}
use Rattle.nmc_base.specs.Roomy.{Roomy}
use Rattle.chain_names.specs.declared.coin.Coin.{Coin}
use Rattle.chain_names.specs.declared.coin.Coin.TheVariants.{New, Named}
use Rattle.chain_names.specs.declared.coin.Item.{Item}
use Rattle.chain_names.specs.Points.{same_point}
use Rattle.chain_names.specs.Coins.{entry_of}

-- ---- coins

-- each outpoint that has a place, and its coin where the place is filled
abbrev pub CoinSlots : Type 0
CoinSlots = List (OutPoint × Option Coin)

abbrev pub filled_by : {V : Type 0} → Option (Option V) → Option V
filled_by None = None
filled_by (Some value) = value

-- the coin at each outpoint
abbrev pub coins_in : CoinSlots → OutPoint → Option Coin
coins_in slots = λ point. filled_by (lookup (same_point point) slots)

-- whether an outpoint has a place
abbrev pub coin_places : CoinSlots → OutPoint → Bool
coin_places slots = λ point. is_some (lookup (same_point point) slots)

-- ---- histories

-- each name that has a place, its history, and for how many values more it has room
abbrev pub NameSlots : Type 0
NameSlots = List (List ℕ × Roomy Item)

abbrev pub items_of : Option (Roomy Item) → List Item
items_of None = []
items_of (Some history) = history.items

abbrev pub spare_of : Option (Roomy Item) → ℕ
spare_of None = 0
spare_of (Some history) = history.spare

-- the history of each name
abbrev pub names_in : NameSlots → List ℕ → List Item
names_in slots = λ name. items_of (lookup (bytes_eq name) slots)

-- for how many values more each name has room
abbrev pub room_in : NameSlots → List ℕ → ℕ
room_in slots = λ name. spare_of (lookup (bytes_eq name) slots)

-- whether a name has a place
abbrev pub name_places : NameSlots → List ℕ → Bool
name_places slots = λ name. is_some (lookup (bytes_eq name) slots)

-- ---- the queue

-- each height that has a row, and the row: each outpoint that has a place there, and whether it is filled
abbrev pub QueueSlots : Type 0
QueueSlots = List (ℕ × List (OutPoint × Bool))

abbrev pub row_of : Option (List (OutPoint × Bool)) → List (OutPoint × Bool)
row_of None = []
row_of (Some row) = row

abbrev pub row_at : QueueSlots → ℕ → List (OutPoint × Bool)
row_at slots height = row_of (lookup (nat_eq height) slots)

abbrev pub is_filled : Option Bool → Bool
is_filled None = false
is_filled (Some filled) = filled

-- whether an outpoint is queued at a height
abbrev pub queued_in : QueueSlots → ℕ → OutPoint → Bool
queued_in slots = λ height point. is_filled (lookup (same_point point) (row_at slots height))

-- whether an outpoint has a place at a height
abbrev pub queue_places : QueueSlots → ℕ → OutPoint → Bool
queue_places slots = λ height point. is_some (lookup (same_point point) (row_at slots height))

-- the outpoints that have a place at a height
abbrev pub row_points : QueueSlots → ℕ → List OutPoint
row_points slots height = keys_of (row_at slots height)

-- ---- filled tables: each place holds something

abbrev pub AreCoinsFilled : CoinSlots → Type 0
AreCoinsFilled slots = (point : OutPoint) → coin_places slots point ≡ is_some (coins_in slots point)

abbrev pub AreNamesFilled : NameSlots → Type 0
AreNamesFilled slots = (name : List ℕ) → name_places slots name ≡ is_some (entry_of (names_in slots name))

abbrev pub IsQueueFilled : QueueSlots → Type 0
IsQueueFilled slots = (height : ℕ) (point : OutPoint) → queue_places slots height point ≡ queued_in slots height point

-- ---- the queue of the coins

abbrev pub is_named_at : ℕ → Option Coin → Bool
is_named_at height None = false
is_named_at height (Some (New hash made)) = false
is_named_at height (Some (Named name made)) = made == height

-- at each height the outpoints of the names that were given a value there
abbrev pub queue_of : (OutPoint → Option Coin) → ℕ → OutPoint → Bool
queue_of coins = λ height point. is_named_at height (coins point)

-- ---- places that may be empty

-- each place holds something, but where it was touched
abbrev pub FilledBut : {K : Type 0} → (K → Bool) → (K → Bool) → (K → Bool) → Type 0
FilledBut {K} touched places held = (key : K) → places key ≡ true → touched key ≡ false → held key ≡ true
