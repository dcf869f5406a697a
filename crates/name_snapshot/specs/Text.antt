-- The text of a snapshot: a start list, make by make. Numbers stand with their low byte first.
use Rattle.std.specs.Prelude.{ℕ, List, [], ◌∷◌, ◌++◌, length}
use Rattle.std.specs.Int.{w16, w32, to_le_bytes}
use Rattle.name_script.specs.NameScript.{NameOperation, name_new, name_update}
use Rattle.nmc_base.specs.declared.hashes.OutPoint.{OutPoint}
use Rattle.chain_names.specs.Log.{Event, Make, Log}
use Rattle.undo_records.specs.Text.{point_text, name_text}

-- what a make leaves: a commitment to a name, or the value of one
pub data Told : Type 0 where
  commitment : (hash : List ℕ) → Told
  value : (name bytes : List ℕ) → Told

-- a make of a start list, as a snapshot tells it
pub record StartMake : Type 0 where
  pub at : OutPoint
  pub height : ℕ
  pub told : Told

-- ---- the start list

abbrev pub operation_of : Told → NameOperation
operation_of (commitment hash) = name_new hash
operation_of (value name bytes) = name_update name bytes

abbrev pub make_of : StartMake → Event
make_of m = Make m.at (operation_of m.told) m.height

-- the newest make stands first in both
abbrev pub start_of : List StartMake → Log
start_of [] = []
start_of (m ∷ below) = make_of m ∷ start_of below

-- ---- the text

-- The tag is the first opcode of the name script: OP_1 or OP_3 (Namecoin's OP_NAME_NEW and OP_NAME_UPDATE).
-- +----+----------+---------+         +----+----------+---------------+------+----------------+-------+
-- | 51 | height 4 | hash 20 |   or    | 53 | height 4 | name length 1 | name | value length 2 | value |
-- +----+----------+---------+         +----+----------+---------------+------+----------------+-------+
abbrev pub told_text : ℕ → Told → List ℕ
told_text height (commitment hash) = 0x51 ∷ (to_le_bytes w32 height ++ hash)
told_text height (value name bytes) = 0x53 ∷ (to_le_bytes w32 height ++ (name_text name ++ (to_le_bytes w16 (length bytes) ++ bytes)))

abbrev pub make_text : StartMake → List ℕ
make_text m = point_text m.at ++ told_text m.height m.told

-- the newest make, which stands first in the list, stands last in the text
abbrev pub makes_text : List StartMake → List ℕ
makes_text [] = []
makes_text (m ∷ below) = makes_text below ++ make_text m

-- `NMCS`, and the version
abbrev pub mark : List ℕ
mark = 0x4e ∷ 0x4d ∷ 0x43 ∷ 0x53 ∷ 1 ∷ []

-- +--------+-----------+---------+
-- | `NMCS` | version 1 | count 4 |
-- +--------+-----------+---------+
abbrev pub head_text : ℕ → List ℕ
head_text count = mark ++ to_le_bytes w32 count

-- +------+-------+
-- | head | makes |
-- +------+-------+
abbrev pub snapshot_text : List StartMake → List ℕ
snapshot_text makes = head_text (length makes) ++ makes_text makes
