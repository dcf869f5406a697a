-- An image: a base, the records that undo the blocks above it, and the state at the tip as lists.
use Rattle.std.specs.Prelude.{◌≡◌, ◌≢◌, ℕ, ◌<◌, ◌^◌, List, [], ◌∷◌, length, map, Option, Some, None}
use Rattle.std.specs.List.{AllByRecursion}
use Rattle.std.specs.List.Sorted.{IsStrictlySortedBy}
use Rattle.std.specs.Cmp.Lexicographic.{slice_cmp}
use Rattle.std.specs.Ordering.{nat_cmp}
use Rattle.std.specs.Str.{bytes_eq}
use Rattle.nmc_base.specs.declared.chain_ends.Base.{Base}
use Rattle.nmc_base.specs.declared.hashes.OutPoint.{OutPoint}
use Rattle.chain_names.specs.declared.coin.Coin.{Coin}
use Rattle.chain_names.specs.declared.coin.Coin.TheVariants.{New, Named}
use Rattle.chain_names.specs.declared.coin.HeldCoin.{HeldCoin}
use Rattle.chain_names.specs.declared.coin.Item.{Item}
use Rattle.chain_names.specs.Coins.{Maps}
use Rattle.chain_names.specs.Expired.{IsSortedByPoint}
use Rattle.chain_names.specs.Points.{same_point, changed}
use Rattle.chain_names.specs.Undo.{UndoRecord}
use Rattle.chain_names.specs.Writable.{IsWritablePoint, IsWritableName, IsWritableItem, IsWritableNew, IsWritableNamed, IsWritable}
use Rattle.undo_records.specs.declared.version.Version.{Version}
use Rattle.undo_records.specs.declared.version.Version.TheVariants.{One, Two}
use Rattle.undo_records.specs.Versions.{item_without, told}

-- a name and its items, the oldest first
pub record History : Type 0 where
  pub name : List ℕ
  pub items : List Item

-- the records from the oldest on, coins in the order of their outpoints, names in the order of their bytes
pub record Image : Type 0 where
  pub base : Base
  pub undos : List UndoRecord
  pub coins : List HeldCoin
  pub names : List History

-- ---- which images have a text

abbrev pub IsWritableCoin : Coin → Type 0
IsWritableCoin (New hash height) = IsWritableNew (New hash height)
IsWritableCoin (Named name height) = IsWritableNamed (Named name height)

-- a coin of either kind
pub record IsWritableEntry (held : HeldCoin) : Type 0 where
  pub at : IsWritablePoint held.at
  pub coin : IsWritableCoin held.coin

pub record IsWritableHistory (h : History) : Type 0 where
  pub name : IsWritableName h.name
  pub some : h.items ≢ []
  pub count : length h.items < 2 ^ 32
  pub items : AllByRecursion IsWritableItem h.items

abbrev pub names_of : List History → List (List ℕ)
names_of [] = []
names_of (h ∷ hs) = h.name ∷ names_of hs

pub record HasText (image : Image) : Type 0 where
  pub height : image.base.height < 2 ^ 32
  pub hash : length image.base.hash.0 ≡ 32
  pub undo_count : length image.undos < 2 ^ 32
  pub undos : AllByRecursion IsWritable image.undos
  pub coin_count : length image.coins < 2 ^ 32
  pub coins : AllByRecursion IsWritableEntry image.coins
  pub coins_sorted : IsSortedByPoint image.coins
  pub name_count : length image.names < 2 ^ 32
  pub names : AllByRecursion IsWritableHistory image.names
  pub names_sorted : IsStrictlySortedBy (slice_cmp nat_cmp) (names_of image.names)

-- ---- what a text of a version tells of an image

abbrev pub item_told : Version → Item → Item
item_told One item = item_without item
item_told Two item = item

abbrev pub history_told : Version → History → History
history_told version h = record { name = h.name; items = map (item_told version) h.items }

-- the same image, in which each registration height is 0 where the version leaves it out
abbrev pub image_told : Version → Image → Image
image_told version image = record { base = image.base; undos = map (told version) image.undos; coins = image.coins; names = map (history_told version) image.names }

-- ---- the state that an image lists

abbrev pub coins_listed : List HeldCoin → OutPoint → Option Coin
coins_listed [] = λ point. None
coins_listed (held ∷ helds) = changed same_point (coins_listed helds) held.at (Some held.coin)

abbrev pub names_listed : List History → List ℕ → List Item
names_listed [] = λ name. []
names_listed (h ∷ hs) = changed bytes_eq (names_listed hs) h.name h.items

abbrev pub maps_listed : Image → Maps
maps_listed image = record { coins = coins_listed image.coins; names = names_listed image.names }

abbrev pub HasItems : History → Type 0
HasItems h = h.items ≢ []

-- the image of a base, of records from the oldest on, and of a state: each coin and each name that the state has, in order
pub record IsImageOf (base : Base) (undos : List UndoRecord) (maps : Maps) (image : Image) : Type 0 where
  pub base_is : image.base ≡ base
  pub undos_are : image.undos ≡ undos
  pub maps_are : maps_listed image ≡ maps
  pub coins_sorted : IsSortedByPoint image.coins
  pub names_sorted : IsStrictlySortedBy (slice_cmp nat_cmp) (names_of image.names)
  pub some : AllByRecursion HasItems image.names
