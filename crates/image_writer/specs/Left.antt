-- What is left of the text of an image, from each of the places at which its writing may stand.
use Rattle.std.specs.Prelude.{◌≡◌, ℕ, List, [], ◌++◌, length, map, drop}
use Rattle.std.specs.List.{flat_map, AllByRecursion}
use Rattle.std.specs.Int.{w32, to_le_bytes}
use Rattle.chain_names.specs.declared.coin.HeldCoin.{HeldCoin}
use Rattle.chain_names.specs.declared.coin.Item.{Item}
use Rattle.chain_names.specs.declared.undo.Undo.{Undo}
use Rattle.chain_names.specs.declared.undo.UndoOp.{UndoOp}
use Rattle.chain_names.specs.Limits.{IsWithinLimitsOp, HoldsName, IsWithinLimits}
use Rattle.chain_names.specs.Seen.{seen_undo}
use Rattle.undo_records.specs.declared.version.Version.TheVariants.{Two}
use Rattle.undo_records.specs.Text.{held_text, item_text, op_text, undo_text}
use Rattle.image_grammar.specs.Text.{history_text}
use Rattle.image_writer.specs.declared.listed.Listed.{Listed}
use Rattle.image_writer.specs.declared.stage.Stage.{Stage}
use Rattle.image_writer.specs.declared.stage.Stage.TheVariants.{InUndos, InOps, InExpired, InCoins, InNames, InItems}
use Rattle.image_writer.specs.Listed.{IsShortItem}
use Rattle.image_writer.specs.Places.{held_at, history_at}

module _ (l : Listed) where
  -- the names from one on, each with its items
  abbrev pub names_left : ℕ → List ℕ
  names_left from = flat_map (history_text Two) (map (history_at l.name_table.now) (drop from l.names.items))

  -- the coins from one on, and then the names behind their count
  abbrev pub coins_left : ℕ → List ℕ
  coins_left from = flat_map held_text (map (held_at l.coin_table) (drop from l.coins.items)) ++ (to_le_bytes w32 (length l.names.items) ++ names_left 0)

  -- records, and then the coins behind their count
  abbrev pub undos_left : List Undo → List ℕ
  undos_left undos = flat_map (undo_text Two) (map seen_undo undos) ++ (to_le_bytes w32 (length l.coins.items) ++ coins_left 0)

  abbrev pub expired_left : List HeldCoin → List Undo → List ℕ
  expired_left expired undos = flat_map held_text expired ++ undos_left undos

  -- operations, the coins that expired behind their count, and the records behind
  abbrev pub ops_left : List UndoOp → List HeldCoin → List Undo → List ℕ
  ops_left ops expired undos = flat_map (op_text Two) ops ++ (to_le_bytes w32 (length expired) ++ expired_left expired undos)

  abbrev pub items_left : List Item → ℕ → List ℕ
  items_left items from = flat_map (item_text Two) items ++ names_left from

  abbrev pub left : Stage → List ℕ
  left (InUndos undos) = undos_left undos.now
  left (InOps ops expired undos) = ops_left ops.now expired.now undos.now
  left (InExpired expired undos) = expired_left expired.now undos.now
  left (InCoins from) = coins_left from
  left (InNames from) = names_left from
  left (InItems items from) = items_left items.now from

-- ---- what the values are within

abbrev pub IsWithin : Undo → Type 0
IsWithin undo = IsWithinLimits (seen_undo undo)

abbrev pub AreWithin : Stage → Type 0
AreWithin (InUndos undos) = AllByRecursion IsWithin undos.now
AreWithin (InOps ops expired undos) = AllByRecursion IsWithinLimitsOp ops.now × AllByRecursion HoldsName expired.now × AllByRecursion IsWithin undos.now
AreWithin (InExpired expired undos) = AllByRecursion HoldsName expired.now × AllByRecursion IsWithin undos.now
AreWithin (InCoins from) = Unit {0}
AreWithin (InNames from) = Unit {0}
AreWithin (InItems items from) = AllByRecursion IsShortItem items.now

-- ---- a step

-- the next bytes were put, and the rest is left behind; there are none only at the end
pub record Writes (l : Listed) (old new : Stage) (bytes : List ℕ) : Type 0 where
  pub text : bytes ++ left l new ≡ left l old
  pub some : bytes ≡ [] → left l old ≡ []
  pub within : AreWithin new
