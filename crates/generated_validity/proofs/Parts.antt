-- How long the texts of coins, items and records are, whose parts are short.
use Rattle.std.proofs.Common.{ℕ, ◌*◌, ◌≤◌, List, [], ◌∷◌, ◌++◌, length, Option, Some, None, arith, length-append}
use Rattle.std.proofs.Math.Nat.{suc-mul}
use Rattle.std.specs.Int.{w16, w32, to_le_bytes}
use Rattle.std.specs.List.{flat_map, AllByRecursion}
use Rattle.nmc_base.specs.declared.hashes.OutPoint.{OutPoint}
use Rattle.chain_names.specs.declared.coin.Coin.{Coin}
use Rattle.chain_names.specs.declared.coin.Coin.TheVariants.{New, Named}
use Rattle.chain_names.specs.declared.coin.HeldCoin.{HeldCoin}
use Rattle.chain_names.specs.declared.coin.Item.{Item}
use Rattle.chain_names.specs.declared.undo.UndoOp.{UndoOp}
use Rattle.chain_names.specs.declared.undo.UndoOp.TheVariants.{New as op_new, First, Update}
use Rattle.chain_names.specs.Undo.{UndoRecord}
use Rattle.chain_names.specs.Writable.{Change, change_of}
use Rattle.undo_records.specs.declared.version.Version.TheVariants.{Two}
use Rattle.undo_records.specs.Text.{before_text, change_text, coin_text, held_text, item_text, name_text, op_text, point_text, undo_text}
use Rattle.image_grammar.specs.Image.{History}
use Rattle.image_grammar.specs.Text.{counted_text, history_text}

-- each text is no longer than the most, so all are no longer than as many times that
pub texts_length : {X : Type 0} (text : X → List ℕ) (most : ℕ) (xs : List X) → AllByRecursion (λ x. length (text x) ≤ most) xs → length (flat_map text xs) ≤ length xs * most
texts_length text most [] short = omega arith
texts_length text most (x ∷ xs) short = omega (arith, short.0, texts_length text most xs short.1, length-append (text x) (flat_map text xs), suc-mul (length xs) most)

-- ---- outpoints, coins and items

abbrev pub IsShortPoint : OutPoint → Type 0
IsShortPoint point = length point.txid.0 ≤ 32

abbrev pub IsShortCoin : Coin → Type 0
IsShortCoin (New hash height) = length hash.0 ≤ 255
IsShortCoin (Named name height) = length name ≤ 255

pub record IsShortItem (item : Item) : Type 0 where
  pub at : IsShortPoint item.at
  pub value : length item.value ≤ 1023

abbrev pub IsShortBefore : Option Item → Type 0
IsShortBefore None = Unit {0}
IsShortBefore (Some item) = IsShortItem item

point_length : (point : OutPoint) → IsShortPoint point → length (point_text point) ≤ 36
unfolding point_text
point_length point short = omega (arith, short, length-append point.txid.0 (to_le_bytes w32 point.index))

coin_length : (coin : Coin) → IsShortCoin coin → length (coin_text coin) ≤ 261
unfolding coin_text
coin_length (New hash height) short = omega (arith, short, length-append (to_le_bytes w32 height) hash.0)
coin_length (Named name height) short = omega (arith, short, length-append (to_le_bytes w32 height) (name_text name))

pub held_length : (held : HeldCoin) → IsShortPoint held.at → IsShortCoin held.coin → length (held_text held) ≤ 297
unfolding held_text
held_length held at coin = omega (arith, point_length held.at at, coin_length held.coin coin, length-append (point_text held.at) (coin_text held.coin))

pub item_length : (item : Item) → IsShortItem item → length (item_text Two item) ≤ 1069
unfolding item_text
item_length item short =
    let value : List ℕ = to_le_bytes w16 (length item.value) ++ item.value in
    let at : List ℕ = point_text item.at ++ value in
    let registered : List ℕ = to_le_bytes w32 item.registered ++ at in
    omega (
      arith,
      point_length item.at short.at,
      short.value,
      length-append (to_le_bytes w16 (length item.value)) item.value,
      length-append (point_text item.at) value,
      length-append (to_le_bytes w32 item.registered) at,
      length-append (to_le_bytes w32 item.height) registered,
    )

pub history_length : (h : History) → length h.name ≤ 255 → length h.items ≤ 10000 → AllByRecursion (λ item. length (item_text Two item) ≤ 1069) h.items
    → length (history_text Two h) ≤ 10690260
history_length h name few short =
    omega (
      arith,
      name,
      few,
      texts_length (item_text Two) 1069 h.items short,
      length-append (name_text h.name) (counted_text (item_text Two) h.items),
      length-append (to_le_bytes w32 (length h.items)) (flat_map (item_text Two) h.items),
    )

-- ---- operations and records

before_length : (before : Option Item) → IsShortBefore before → length (before_text Two before) ≤ 1070
unfolding before_text
before_length None short = omega arith
before_length (Some item) short = omega (arith, item_length item short)

pub record IsShortChange (c : Change) : Type 0 where
  pub made : IsShortPoint c.made
  pub spent : IsShortPoint c.spent
  pub coin : IsShortCoin c.coin
  pub name : length c.name ≤ 255
  pub before : IsShortBefore c.before

change_length : (c : Change) → IsShortChange c → length (change_text Two c) ≤ 1659
unfolding change_text
change_length c short =
    let name : List ℕ = name_text c.name ++ before_text Two c.before in
    let coin : List ℕ = coin_text c.coin ++ name in
    let spent : List ℕ = point_text c.spent ++ coin in
    omega (
      arith,
      point_length c.made short.made,
      point_length c.spent short.spent,
      coin_length c.coin short.coin,
      short.name,
      before_length c.before short.before,
      length-append (name_text c.name) (before_text Two c.before),
      length-append (coin_text c.coin) name,
      length-append (point_text c.spent) coin,
      length-append (point_text c.made) spent,
    )

abbrev pub IsShortOp : UndoOp → Type 0
IsShortOp (op_new made) = IsShortPoint made
IsShortOp (First made spent coin name before) = IsShortChange (change_of made spent coin name before)
IsShortOp (Update made spent coin name before) = IsShortChange (change_of made spent coin name before)

pub op_length : (op : UndoOp) → IsShortOp op → length (op_text Two op) ≤ 1660
unfolding op_text
op_length (op_new made) short = omega (arith, point_length made short)
op_length (First made spent coin name before) short = omega (arith, change_length (change_of made spent coin name before) short)
op_length (Update made spent coin name before) short = omega (arith, change_length (change_of made spent coin name before) short)

-- a record of one operation at most, and of so many coins
pub undo_length : (u : UndoRecord) → length u.block.0 ≤ 32 → length (flat_map (op_text Two) u.ops) ≤ 1660 → length (flat_map held_text u.expired) ≤ 2970000
    → length (undo_text Two u) ≤ 2971700
unfolding undo_text
undo_length u block ops expired =
    let gone : List ℕ = flat_map held_text u.expired in
    let counted : List ℕ = to_le_bytes w32 (length u.expired) ++ gone in
    let done : List ℕ = flat_map (op_text Two) u.ops ++ counted in
    let behind : List ℕ = to_le_bytes w32 (length u.ops) ++ done in
    omega (
      arith,
      block,
      ops,
      expired,
      length-append (to_le_bytes w32 (length u.expired)) gone,
      length-append (flat_map (op_text Two) u.ops) counted,
      length-append (to_le_bytes w32 (length u.ops)) done,
      length-append u.block.0 behind,
    )
