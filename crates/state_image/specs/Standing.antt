-- Where a reading of the code stands, as the grammar says it.
use Rattle.std.specs.Prelude.{◌≡◌, ◌≢◌, List, [], ◌∷◌, Option, Some, None}
use Rattle.std.specs.declared.cmp.Ordering.TheVariants.{Less}
use Rattle.nmc_base.specs.declared.chain_ends.Base.{Base}
use Rattle.nmc_base.specs.declared.hashes.OutPoint.{OutPoint}
use Rattle.nmc_base.specs.Hash.{outpoint_cmp}
use Rattle.chain_names.specs.declared.coin.Coin.{Coin}
use Rattle.chain_names.specs.Coins.{Maps}
use Rattle.chain_names.specs.Seen.{seen_undo}
use Rattle.chain_names.specs.Tables.{coins_in}
use Rattle.chain_names.specs.Undo.{UndoRecord}
use Rattle.name_tables.specs.Parts.{newest_first}
use Rattle.name_tables.specs.Tables.{maps_by}
use Rattle.image_grammar.specs.Stages.{Gathered, Stage, head, in_undos, in_ops, at_expired, in_expired, at_coins, in_coins, at_names, in_names, in_items, Standing, stands}
use Rattle.state_image.specs.Queueing.{HasItsQueue}
use Rattle.state_image.specs.declared.next.Next.{Next}
use Rattle.state_image.specs.declared.next.Next.TheVariants.{Head, Undos, Ops, ExpiredCount, Expired, CoinCount, Coins, NameCount, Names, Items}
use Rattle.state_image.specs.declared.reading.Reading.{Reading}

abbrev pub stage_of : Next → Stage
stage_of Head = head
stage_of (Undos undos) = in_undos undos
stage_of (Ops ops undos) = in_ops ops undos
stage_of (ExpiredCount undos) = at_expired undos
stage_of (Expired expired undos) = in_expired expired undos
stage_of CoinCount = at_coins
stage_of (Coins coins) = in_coins coins
stage_of NameCount = at_names
stage_of (Names names) = in_names names
stage_of (Items items names) = in_items items names

-- the newest record, or the one that would begin on the base
abbrev pub newest : Base → List UndoRecord → UndoRecord
newest base [] = record { block = base.hash; ops = []; expired = [] }
newest base (undo ∷ undos) = undo

-- the record that was gathered last: the one that is being read, or else the newest
abbrev pub last_undo : Next → UndoRecord → UndoRecord → UndoRecord
last_undo Head reading newest = newest
last_undo (Undos undos) reading newest = newest
last_undo (Ops ops undos) reading newest = reading
last_undo (ExpiredCount undos) reading newest = reading
last_undo (Expired expired undos) reading newest = reading
last_undo CoinCount reading newest = newest
last_undo (Coins coins) reading newest = newest
last_undo NameCount reading newest = newest
last_undo (Names names) reading newest = newest
last_undo (Items items names) reading newest = newest

abbrev pub gathered_at : Next → Reading → Gathered
gathered_at next r = record {
  base = r.base;
  undos = newest_first r.undos.items;
  undo = last_undo next (seen_undo r.undo) (newest r.base (newest_first r.undos.items));
  last = r.last;
  name = r.name;
  maps = maps_by r.tables;
}

abbrev pub standing_at : Next → Reading → Standing
standing_at next r = stands r.version (stage_of next) (gathered_at next r)

abbrev pub standing : Reading → Standing
standing r = standing_at r.next r

-- ---- what the tables keep

abbrev pub no_coins : OutPoint → Option Coin
no_coins = λ point. None

abbrev pub no_maps : Maps
no_maps = record { coins = no_coins; names = λ name. [] }

-- nothing was read
pub record IsBlank (r : Reading) : Type 0 where
  pub undos : r.undos.items ≡ []
  pub last : r.last ≡ None
  pub name : r.name ≡ None
  pub maps : maps_by r.tables ≡ no_maps

-- no coin stands behind the last outpoint
abbrev pub AreUpTo : Option OutPoint → (OutPoint → Option Coin) → Type 0
AreUpTo None coins = coins ≡ no_coins
AreUpTo (Some last) coins = (point : OutPoint) (coin : Coin) → coins point ≡ Some coin → outpoint_cmp last point ≢ Less

-- which coins there are: none before the list of coins, and as long as it is read none behind the last outpoint
abbrev pub BeginsAt : Next → Reading → Type 0
BeginsAt Head r = IsBlank r
BeginsAt (Undos undos) r = coins_in r.tables.coins ≡ no_coins
BeginsAt (Ops ops undos) r = coins_in r.tables.coins ≡ no_coins
BeginsAt (ExpiredCount undos) r = coins_in r.tables.coins ≡ no_coins
BeginsAt (Expired expired undos) r = coins_in r.tables.coins ≡ no_coins
BeginsAt CoinCount r = coins_in r.tables.coins ≡ no_coins
BeginsAt (Coins coins) r = AreUpTo r.last (coins_in r.tables.coins)
BeginsAt NameCount r = Unit {0}
BeginsAt (Names names) r = Unit {0}
BeginsAt (Items items names) r = Unit {0}

-- what is kept while an image is read
pub record IsKept (r : Reading) : Type 0 where
  pub tables : HasItsQueue r.tables
  pub begins : BeginsAt r.next r
