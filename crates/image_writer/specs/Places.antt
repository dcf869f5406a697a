-- Coins and names, by their places in a table.
use Rattle.std.specs.Prelude.{◌≡◌, ℕ, List, [], Option, Some, None, slice_get}
use Rattle.std.specs.Cmp.Lexicographic.{slice_cmp}
use Rattle.std.specs.Map.{keys_of}
use Rattle.std.specs.Option.{option_cmp}
use Rattle.std.specs.Ordering.{nat_cmp, ordering_then}
use Rattle.std.specs.declared.cmp.Ordering.{Ordering}
use Rattle.nmc_base.specs.Hash.{outpoint_cmp}
use Rattle.nmc_base.specs.declared.hashes.OutPoint.{OutPoint}
use Rattle.chain_names.specs.declared.coin.Coin.{Coin}
use Rattle.chain_names.specs.declared.coin.Coin.TheVariants.{Named}
use Rattle.chain_names.specs.declared.coin.HeldCoin.{HeldCoin}
use Rattle.chain_names.specs.Tables.{CoinSlots, NameSlots}
use Rattle.image_grammar.specs.Image.{History}
use Rattle.image_writer.specs.declared.listed.CoinPlace.{CoinPlace}
use Rattle.image_writer.specs.declared.listed.NamePlace.{NamePlace}
use Rattle.image_writer.specs.Front.{padded}
use Rattle.image_writer.specs.Ordered.{history_in}

-- ---- what stands there

-- a place with no coin stands for one with no name, which no table holds
abbrev pub held_of : Option (OutPoint × Option Coin) → HeldCoin
held_of None = record { at = record { txid = record { 0 = [] }; index = 0 }; coin = Named [] 0 }
held_of (Some (at, None)) = record { at = at; coin = Named [] 0 }
held_of (Some (at, Some coin)) = record { at = at; coin = coin }

abbrev pub held_at : CoinSlots → CoinPlace → HeldCoin
held_at slots coin = held_of (slice_get slots coin.place)

abbrev pub name_of : Option (List ℕ) → List ℕ
name_of None = []
name_of (Some name) = name

abbrev pub name_at : NameSlots → NamePlace → List ℕ
name_at slots name = name_of (slice_get (keys_of slots) name.place)

abbrev pub history_at : NameSlots → NamePlace → History
history_at slots name = history_in slots (name_at slots name)

-- ---- that something stands there

-- the table has a coin at this place, whose outpoint begins with these bytes
pub record IsCoinAt (slots : CoinSlots) (coin : CoinPlace) : Type 0 where
  pub held : HeldCoin
  pub here : slice_get slots coin.place ≡ Some (held.at, Some held.coin)
  pub front_is : coin.front ≡ padded 4 held.at.txid.0

-- the table has a name at this place, which begins with these bytes
pub record IsNameAt (slots : NameSlots) (place : NamePlace) : Type 0 where
  pub name : List ℕ
  pub here : slice_get (keys_of slots) place.place ≡ Some name
  pub front_is : place.front ≡ padded 8 name

-- ---- in order

-- the first bytes decide, and where these are the same, the whole keys
abbrev pub coin_place_cmp : CoinSlots → CoinPlace → CoinPlace → Ordering
coin_place_cmp slots a b =
    ordering_then (slice_cmp nat_cmp a.front b.front) (option_cmp outpoint_cmp (slice_get (keys_of slots) a.place) (slice_get (keys_of slots) b.place))

abbrev pub name_place_cmp : NameSlots → NamePlace → NamePlace → Ordering
name_place_cmp slots a b =
    ordering_then (slice_cmp nat_cmp a.front b.front) (option_cmp (slice_cmp nat_cmp) (slice_get (keys_of slots) a.place) (slice_get (keys_of slots) b.place))
