-- What a short log says of coins and histories: they are few and short.
use Rattle.std.proofs.Common.{◌≡◌, ◌≢◌, ℕ, suc, ◌≤◌, Bool, true, List, [], ◌∷◌, length, Some, refl, ◌∙◌, arith, length-append}
use Rattle.std.specs.Cmp.Lexicographic.{slice_cmp}
use Rattle.std.specs.List.{AllByRecursion, list_any}
use Rattle.std.specs.Ordering.{nat_cmp, eq_by_cmp}
use Rattle.std.proofs.lemmas.Bool.{or_left, or_right}
use Rattle.std.proofs.lemmas.Map.Text.{is_eq-slice_cmp}
use Rattle.name_script.specs.NameScript.{NameOperation, name_new, name_firstupdate, name_update}
use Rattle.nmc_base.specs.declared.hashes.OutPoint.{OutPoint}
use Rattle.nmc_base.specs.declared.chain_ends.Profile.TheVariants.{Regtest}
use Rattle.nmc_base.proofs.ListLemmas.{all-append}
use Rattle.chain_names.specs.declared.coin.Coin.{Coin}
use Rattle.chain_names.specs.declared.coin.Item.{Item}
use Rattle.chain_names.specs.Coins.{coin_now, coin_of, entry_of, history_of, live_coin, opened, updated, with_value}
use Rattle.chain_names.specs.Log.{Log, Make, Spend}
use Rattle.chain_names.specs.Meaning.{FitsName}
use Rattle.chain_names.specs.Points.{same_point}
use Rattle.chain_names.proofs.Changed.{bytes_eq-self}
use Rattle.chain_names.proofs.HistoryLemmas.{each_history}
use Rattle.chain_names.proofs.PointLemmas.{put_or_there}
use Rattle.chain_names.proofs.Points.{same_point-self}
use Rattle.generated_validity.proofs.Coins.{live_is, spent_was}
use Rattle.generated_validity.proofs.Makings.{HasShortTexts}
use Rattle.generated_validity.proofs.Parts.{IsShortCoin, IsShortItem, IsShortPoint}

-- ---- logs

abbrev pub AreShort : Log → Type 0
AreShort [] = Unit {0}
AreShort (Spend point ∷ log) = AreShort log
AreShort (Make point operation height ∷ log) = IsShortPoint point × HasShortTexts operation × AreShort log

-- the outpoints that were made
abbrev pub points_made : Log → List OutPoint
points_made [] = []
points_made (Spend point ∷ log) = points_made log
points_made (Make point operation height ∷ log) = point ∷ points_made log

abbrev named_by : NameOperation → List (List ℕ) → List (List ℕ)
named_by (name_new hash) names = names
named_by (name_firstupdate name rand value) names = name ∷ names
named_by (name_update name value) names = name ∷ names

-- the names that were given a value
abbrev pub names_given : Log → List (List ℕ)
names_given [] = []
names_given (Spend point ∷ log) = names_given log
names_given (Make point operation height ∷ log) = named_by operation (names_given log)

-- a log of so many makes at most
pub record IsSmall (most : ℕ) (log : Log) : Type 0 where
  pub short : AreShort log
  pub points : length (points_made log) ≤ most
  pub names : length (names_given log) ≤ most

-- one make more
pub small_more : (most : ℕ) (log : Log) (point : OutPoint) (operation : NameOperation) (height : ℕ) → IsSmall most log → IsShortPoint point → HasShortTexts operation
    → IsSmall (suc most) (Make point operation height ∷ log)
small_more most log point operation height small at texts = record {
  short = (at, texts, small.short);
  points = omega (arith, small.points);
  names = by operation;
}
  where
    by : (operation : NameOperation) → length (named_by operation (names_given log)) ≤ suc most
    by (name_new hash) = omega (arith, small.names)
    by (name_firstupdate name rand value) = omega (arith, small.names)
    by (name_update name value) = omega (arith, small.names)

pub small_later : (most : ℕ) (log : Log) → IsSmall most log → IsSmall (suc most) log
small_later most log small = record { short = small.short; points = omega (arith, small.points); names = omega (arith, small.names) }

-- ---- coins

-- a coin is short, and so is its outpoint, which is one of these
pub record IsShortAt (points : List OutPoint) (point : OutPoint) (coin : Coin) : Type 0 where
  pub at : IsShortPoint point
  pub coin_is : IsShortCoin coin
  pub listed : list_any (same_point point) points ≡ true

made_short : (operation : NameOperation) (height : ℕ) → HasShortTexts operation → IsShortCoin (coin_of operation height)
made_short (name_new hash) height texts = texts
made_short (name_firstupdate name rand value) height texts = texts.name_length
made_short (name_update name value) height texts = texts.name_length

now_short : (log : Log) → AreShort log → (point : OutPoint) (coin : Coin) → coin_now log point ≡ Some coin → IsShortAt (points_made log) point coin
now_short [] short point coin e = absurd cc
now_short (Spend spent ∷ log) short point coin e = now_short log short point coin (spent_was (coin_now log) spent point coin e)
now_short (Make made operation height ∷ log) short point coin e =
    let points = points_made log in
    let here : IsShortAt (made ∷ points) made (coin_of operation height) = record {
      at = short.0;
      coin_is = made_short operation height short.1;
      listed = or_left (same_point made made) (list_any (same_point made) points) (same_point-self made);
    } in
    put_or_there (IsShortAt (made ∷ points)) (coin_now log) made (coin_of operation height) here
    (λ q c there. let before = now_short log short.2 q c there in record { at = before.at; coin_is = before.coin_is; listed = or_right (same_point q made) (list_any (same_point q) points) before.listed }) point coin e

pub live_short : (log : Log) (height : ℕ) → AreShort log → (point : OutPoint) (coin : Coin) → live_coin Regtest log height point ≡ Some coin → IsShortAt (points_made log) point coin
live_short log height short point coin e = now_short log short point coin (live_is height (coin_now log point) coin e)

-- ---- histories

abbrev pub same_name : List ℕ → List ℕ → Bool
same_name = eq_by_cmp (slice_cmp nat_cmp)

-- the items are short and no more than the names, of which theirs is one
pub record IsShortHistory (names : List (List ℕ)) (name : List ℕ) (items : List Item) : Type 0 where
  pub items_are : AllByRecursion IsShortItem items
  pub few : length items ≤ length names
  pub name_is : items ≢ [] → length name ≤ 255
  pub listed : items ≢ [] → list_any (same_name name) names ≡ true

module _ (names : List (List ℕ)) (histories : List ℕ → List Item) (name value : List ℕ) (item : Item) where
  value_more : FitsName name value → IsShortItem item → ((other : List ℕ) → IsShortHistory names other (histories other)) → (other : List ℕ) → IsShortHistory (name ∷ names) other (with_value histories name item other)
  value_more fits short before =
      each_history histories name item (IsShortHistory (name ∷ names)) (record {
        items_are = all-append IsShortItem (histories name) (item ∷ []) (before name).items_are (short, tt);
        few = omega (arith, (before name).few, length-append (histories name) (item ∷ []));
        name_is = λ some. fits.name_length;
        listed = λ some. or_left (same_name name name) (list_any (same_name name) names) (is_eq-slice_cmp name name ∙ bytes_eq-self name);
      })
      (λ other differs. record {
        items_are = (before other).items_are;
        few = omega (arith, (before other).few);
        name_is = (before other).name_is;
        listed = λ some. or_right (same_name other name) (list_any (same_name other) names) ((before other).listed some);
      })

pub history_short : (log : Log) → AreShort log → (name : List ℕ) → IsShortHistory (names_given log) name (history_of log name)
history_short [] short name = record { items_are = tt; few = omega arith; name_is = λ some. absurd (some refl); listed = λ some. absurd (some refl) }
history_short (Spend point ∷ log) short name = history_short log short name
history_short (Make point (name_new hash) height ∷ log) short name = history_short log short.2 name
history_short (Make point (name_firstupdate own rand value) height ∷ log) short name =
    value_more (names_given log) (history_of log) own value (opened height point value) short.1 (record { at = short.0; value = short.1.value_length }) (history_short log short.2) name
history_short (Make point (name_update own value) height ∷ log) short name =
    value_more (names_given log) (history_of log) own value (updated (entry_of (history_of log own)) height point value) short.1 (record { at = short.0; value = short.1.value_length })
    (history_short log short.2) name
