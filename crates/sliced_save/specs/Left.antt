-- What is left of the text of a mirror's image, from each of the places at which the giving of it may stand.
use Rattle.std.specs.Prelude.{◌≡◌, ℕ, ◌+◌, List, [], ◌++◌, length, map, drop, Option, Some, None, slice_get}
use Rattle.std.specs.Int.{w32, to_le_bytes}
use Rattle.std.specs.List.{flat_map}
use Rattle.chain_names.specs.Undo.{UndoRecord}
use Rattle.chain_names.specs.declared.coin.Item.{Item}
use Rattle.undo_records.specs.Text.{held_text, item_text, op_text, undo_text}
use Rattle.undo_records.specs.declared.version.Version.TheVariants.{Two}
use Rattle.image_grammar.specs.Text.{history_text}
use Rattle.sliced_save.specs.Mirror.{Mirrored, held_pair, history_pair}
use Rattle.sliced_save.specs.declared.stage.Stage.{Stage}
use Rattle.sliced_save.specs.declared.stage.Stage.TheVariants.{InUndos, InOps, InExpired, InCoins, InNames, InItems}

module _ (m : Mirrored) where
  -- the names from one on, each with its items
  abbrev pub names_left : ℕ → List ℕ
  names_left from = flat_map (history_text Two) (map history_pair (drop from m.names))

  -- the coins from one on, and then the names behind their count
  abbrev pub coins_left : ℕ → List ℕ
  coins_left from = flat_map held_text (map held_pair (drop from m.coins)) ++ (to_le_bytes w32 (length m.names) ++ names_left 0)

  -- the records from one on, and then the coins behind their count
  abbrev pub undos_left : ℕ → List ℕ
  undos_left from = flat_map (undo_text Two) (drop from m.undos) ++ (to_le_bytes w32 (length m.coins) ++ coins_left 0)

  -- the coins that expired with a record's block from one on, and the records behind it
  abbrev pub expired_left : Option UndoRecord → ℕ → ℕ → List ℕ
  expired_left None undo from = []
  expired_left (Some u) undo from = flat_map held_text (drop from u.expired) ++ undos_left (undo + 1)

  -- the operations of a record from one on, and the coins that expired behind their count
  abbrev pub ops_left : Option UndoRecord → ℕ → ℕ → List ℕ
  ops_left None undo from = []
  ops_left (Some u) undo from = flat_map (op_text Two) (drop from u.ops) ++ (to_le_bytes w32 (length u.expired) ++ (flat_map held_text u.expired ++ undos_left (undo + 1)))

  -- the items of a name from one on, and the names behind it
  abbrev pub items_left : Option (List ℕ × List Item) → ℕ → ℕ → List ℕ
  items_left None name from = []
  items_left (Some pair) name from = flat_map (item_text Two) (drop from pair.1) ++ names_left (name + 1)

  abbrev pub left : Stage → List ℕ
  left (InUndos from) = undos_left from
  left (InOps undo from) = ops_left (slice_get m.undos undo) undo from
  left (InExpired undo from) = expired_left (slice_get m.undos undo) undo from
  left (InCoins from) = coins_left from
  left (InNames from) = names_left from
  left (InItems name from) = items_left (slice_get m.names name) name from

-- The next bytes were put, and the rest is left behind. There are none only at the end.
pub record Writes (m : Mirrored) (old new : Stage) (bytes : List ℕ) : Type 0 where
  pub text : bytes ++ left m new ≡ left m old
  pub some : bytes ≡ [] → left m old ≡ []
