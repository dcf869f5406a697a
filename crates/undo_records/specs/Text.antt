-- The text of the record that undoes a block, in each of its versions. Numbers stand with their low byte first.
use Rattle.std.specs.Prelude.{ℕ, List, [], ◌∷◌, ◌++◌, length, Option, Some, None}
use Rattle.std.specs.List.{flat_map}
use Rattle.std.specs.Int.{w16, w32, to_le_bytes}
use Rattle.nmc_base.specs.declared.hashes.OutPoint.{OutPoint}
use Rattle.chain_names.specs.declared.coin.Coin.{Coin}
use Rattle.chain_names.specs.declared.coin.Coin.TheVariants.{New, Named}
use Rattle.chain_names.specs.declared.coin.HeldCoin.{HeldCoin}
use Rattle.chain_names.specs.declared.coin.Item.{Item}
use Rattle.chain_names.specs.declared.undo.UndoOp.{UndoOp}
use Rattle.chain_names.specs.declared.undo.UndoOp.TheVariants.{New as op_new, First, Update}
use Rattle.chain_names.specs.Undo.{UndoRecord}
use Rattle.chain_names.specs.Writable.{Change, change_of}
use Rattle.undo_records.specs.declared.version.Version.{Version}
use Rattle.undo_records.specs.declared.version.Version.TheVariants.{One, Two}

-- +---------+---------+
-- | txid 32 | index 4 |
-- +---------+---------+
unfoldable pub point_text : OutPoint → List ℕ
point_text point = point.txid.0 ++ to_le_bytes w32 point.index

-- a name behind its length in one byte
abbrev pub name_text : List ℕ → List ℕ
name_text name = length name ∷ name

-- +----+----------+---------+         +----+----------+----------+------+
-- | 01 | height 4 | hash 20 |   or    | 02 | height 4 | length 1 | name |
-- +----+----------+---------+         +----+----------+----------+------+
unfoldable pub coin_text : Coin → List ℕ
coin_text (New hash height) = 1 ∷ (to_le_bytes w32 height ++ hash.0)
coin_text (Named name height) = 2 ∷ (to_le_bytes w32 height ++ name_text name)

-- a registration height, which version 1 leaves out
abbrev pub registered_text : Version → ℕ → List ℕ
registered_text One registered = []
registered_text Two registered = to_le_bytes w32 registered

-- +----------+-----------------------+-------------+----------+-------+
-- | height 4 | registration height 4 | outpoint 36 | length 2 | value |
-- +----------+-----------------------+-------------+----------+-------+
unfoldable pub item_text : Version → Item → List ℕ
item_text version item =
    to_le_bytes w32 item.height ++ (registered_text version item.registered ++ (point_text item.at ++ (to_le_bytes w16 (length item.value) ++ item.value)))

-- 00, or 01 and the item before
unfoldable pub before_text : Version → Option Item → List ℕ
before_text version None = 0 ∷ []
before_text version (Some item) = 1 ∷ item_text version item

unfoldable pub change_text : Version → Change → List ℕ
change_text version c = point_text c.made ++ (point_text c.spent ++ (coin_text c.coin ++ (name_text c.name ++ before_text version c.before)))

-- The tag is the first opcode of the name script that the operation is: OP_1, OP_2 or OP_3 (Namecoin's OP_NAME_NEW,
-- OP_NAME_FIRSTUPDATE and OP_NAME_UPDATE).
unfoldable pub op_text : Version → UndoOp → List ℕ
op_text version (op_new made) = 0x51 ∷ point_text made
op_text version (First made spent coin name before) = 0x52 ∷ change_text version (change_of made spent coin name before)
op_text version (Update made spent coin name before) = 0x53 ∷ change_text version (change_of made spent coin name before)

unfoldable pub held_text : HeldCoin → List ℕ
held_text held = point_text held.at ++ coin_text held.coin

-- +---------------+-------------------+------------+-----------------+---------------+
-- | block hash 32 | operation count 4 | operations | expired count 4 | expired coins |
-- +---------------+-------------------+------------+-----------------+---------------+
unfoldable pub undo_text : Version → UndoRecord → List ℕ
undo_text version undo =
    undo.block.0 ++ (to_le_bytes w32 (length undo.ops) ++ (flat_map (op_text version) undo.ops
    ++ (to_le_bytes w32 (length undo.expired) ++ flat_map held_text undo.expired)))
