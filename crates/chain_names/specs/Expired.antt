-- The coins that expire with a block.
use Rattle.std.specs.Prelude.{◌≡◌, Bool, true, List, [], ◌∷◌, Option, Some, None}
use Rattle.std.specs.List.{AllByRecursion, list_any}
use Rattle.std.specs.List.Sorted.{IsStrictlySortedBy}
use Rattle.nmc_base.specs.declared.hashes.OutPoint.{OutPoint}
use Rattle.nmc_base.specs.Hash.{outpoint_cmp}
use Rattle.chain_names.specs.declared.coin.Coin.{Coin}
use Rattle.chain_names.specs.declared.coin.HeldCoin.{HeldCoin}
use Rattle.chain_names.specs.Points.{same_point}

abbrev pub points_of : List HeldCoin → List OutPoint
points_of [] = []
points_of (held ∷ helds) = held.at ∷ points_of helds

-- in the order of outpoints, by the bytes of the txid and then by the index, and no outpoint twice
abbrev pub IsSortedByPoint : List HeldCoin → Type 0
IsSortedByPoint helds = IsStrictlySortedBy outpoint_cmp (points_of helds)

-- the coin is held by this outpoint
abbrev pub is_held_at : OutPoint → HeldCoin → Bool
is_held_at point held = same_point held.at point

-- the coin is there now, and the outpoint has none next
pub record IsGone (now next : OutPoint → Option Coin) (held : HeldCoin) : Type 0 where
  pub now_is : now held.at ≡ Some held.coin
  pub next_is : next held.at ≡ None

-- the listed coins are exactly those that are there now and aren't there next
pub record IsDue (now next : OutPoint → Option Coin) (expired : List HeldCoin) : Type 0 where
  pub each : AllByRecursion (IsGone now next) expired
  pub all : (point : OutPoint) (coin : Coin) → now point ≡ Some coin → next point ≡ None → list_any (is_held_at point) expired ≡ true
