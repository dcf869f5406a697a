-- What holds of the coins and histories of each chain at its tip.
use Rattle.std.specs.Prelude.{◌≡◌, ℕ, suc, ◌<◌, ◌≤◌, ◌^◌, true, false, List, [], ◌∷◌, length, Option, Some}
use Rattle.std.specs.List.{AllByRecursion, list_any}
use Rattle.nmc_base.specs.Heights.{highest}
use Rattle.nmc_base.specs.declared.hashes.OutPoint.{OutPoint}
use Rattle.nmc_base.specs.declared.chain_ends.Profile.{Profile}
use Rattle.nmc_base.specs.Expiry.{is_expired}
use Rattle.chain_names.specs.declared.coin.Coin.{Coin}
use Rattle.chain_names.specs.declared.coin.Coin.TheVariants.{Named}
use Rattle.chain_names.specs.declared.coin.Item.{Item}
use Rattle.chain_names.specs.Points.{same_point}
use Rattle.chain_names.specs.Coins.{Maps, entry_of}
use Rattle.chain_names.specs.Meaning.{FitsName}
use Rattle.chain_names.specs.Tables.{is_named_at}
use Rattle.chain_names.specs.Verdict.{made_at}

abbrev pub IsUpTo : ℕ → Item → Type 0
IsUpTo height item = item.height ≤ height

-- the name and the value of an item are within their lengths
abbrev pub FitsItem : List ℕ → Item → Type 0
FitsItem name item = FitsName name item.value

-- the heights of the items don't fall
abbrev pub IsRising : List Item → Type 0
IsRising [] = Unit {0}
IsRising (item ∷ []) = Unit {0}
IsRising (item ∷ next ∷ items) = (item.height ≤ next.height) × IsRising (next ∷ items)

-- the last item of a history has this height and this outpoint
pub record IsLastItem (items : List Item) (height : ℕ) (point : OutPoint) : Type 0 where
  pub registered : ℕ
  pub value : List ℕ
  pub last : entry_of items ≡ Some (record { height = height; registered = registered; at = point; value = value })

-- the coin of a name is that of its last item, and isn't expired at the height
pub record IsStandingCoin (profile : Profile) (height : ℕ) (items : List Item) (made : ℕ) (point : OutPoint) : Type 0 where
  pub is_last : IsLastItem items made point
  pub live : is_expired profile made height ≡ false

-- fewer than 2^32 names were given their value at the height: a list of so many outpoints has all of their coins
pub record HasFewNames (coins : OutPoint → Option Coin) (height : ℕ) : Type 0 where
  pub points : List OutPoint
  pub few : length points < 2 ^ 32
  pub all : (point : OutPoint) → is_named_at height (coins point) ≡ true → list_any (same_point point) points ≡ true

-- Coins and histories while the transactions of a block change them: no coin and no item is higher than the top, and names
-- stand at the height.
pub record Stands (profile : Profile) (height top : ℕ) (maps : Maps) : Type 0 where
  pub coin_heights : (point : OutPoint) (coin : Coin) → maps.coins point ≡ Some coin → made_at coin ≤ top
  pub item_heights : (name : List ℕ) → AllByRecursion (IsUpTo top) (maps.names name)
  -- the items of a name don't fall in height, and names and values are within their lengths
  pub rising : (name : List ℕ) → IsRising (maps.names name)
  pub lengths : (name : List ℕ) → AllByRecursion (FitsItem name) (maps.names name)
  -- the coin of a name is its last item and isn't expired at the height, and a last item that isn't has its coin
  pub named_coins : (point : OutPoint) (name : List ℕ) (made : ℕ) → maps.coins point ≡ Some (Named name made)
      → IsStandingCoin profile height (maps.names name) made point
  pub standing_names : (name : List ℕ) (item : Item) → entry_of (maps.names name) ≡ Some item → is_expired profile item.height height ≡ false
      → maps.coins item.at ≡ Some (Named name item.height)

-- Coins and histories as they are where the tip has this height:
pub record IsState (profile : Profile) (tip : ℕ) (maps : Maps) : Type 0 where
  pub tip_height : tip ≤ highest
  -- no coin and no item is higher than the tip, and the items of a name don't fall in height
  pub coin_heights : (point : OutPoint) (coin : Coin) → maps.coins point ≡ Some coin → made_at coin ≤ tip
  pub item_heights : (name : List ℕ) → AllByRecursion (IsUpTo tip) (maps.names name)
  pub rising : (name : List ℕ) → IsRising (maps.names name)
  -- names and values are within their lengths
  pub lengths : (name : List ℕ) → AllByRecursion (FitsItem name) (maps.names name)
  pub few_names : (height : ℕ) → HasFewNames maps.coins height
  -- the coin of a name is its last item and stands in the next block, and a last item that does so has its coin
  pub named_coins : (point : OutPoint) (name : List ℕ) (made : ℕ) → maps.coins point ≡ Some (Named name made)
      → IsStandingCoin profile (suc tip) (maps.names name) made point
  pub standing_names : (name : List ℕ) (item : Item) → entry_of (maps.names name) ≡ Some item → is_expired profile item.height (suc tip) ≡ false
      → maps.coins item.at ≡ Some (Named name item.height)
