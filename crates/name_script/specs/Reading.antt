-- Reading a name script from left to right.
use Rattle.std.specs.Prelude.{ℕ, Bool, false, ◌||◌, ◌==◌, nat_le, if◌then◌else◌, List, [], ◌∷◌, Option, Some, None}
use Rattle.std.specs.Int.{Width, w8, w16, w32}
use Rattle.block_grammar.specs.Fields.{◌>>=◌, number_at, piece_at}
use Rattle.name_script.specs.NameScript.{NameOperation, name_new, name_firstupdate, name_update}

-- bytes behind their number, low byte first
abbrev pub data_at : Width → List ℕ → Option (List ℕ × List ℕ)
data_at w bytes = do
  n ← number_at w bytes
  piece_at n.0 n.1

-- the value of a push, of any form, and the bytes after it
unfoldable pub push_at : List ℕ → Option (List ℕ × List ℕ)
push_at [] = None
push_at (opcode ∷ bytes) =
    if nat_le opcode 0x4B then piece_at opcode bytes
    else (if opcode == 0x4C then data_at w8 bytes
    else (if opcode == 0x4D then data_at w16 bytes
    else (if opcode == 0x4E then data_at w32 bytes else None)))

abbrev pub begins_with_drop : List ℕ → Bool
begins_with_drop [] = false
begins_with_drop (opcode ∷ bytes) = (opcode == 0x75) || (opcode == 0x6D) || (opcode == 0x61)

-- the operation, where a drop stands behind its pushes
abbrev pub dropped_at : NameOperation → List ℕ → Option NameOperation
dropped_at operation bytes = if begins_with_drop bytes then Some operation else None

abbrev pub new_at : List ℕ → Option NameOperation
new_at bytes = do
  hash ← push_at bytes
  dropped_at (name_new hash.0) hash.1

abbrev pub firstupdate_at : List ℕ → Option NameOperation
firstupdate_at bytes = do
  name ← push_at bytes
  rand ← push_at name.1
  value ← push_at rand.1
  dropped_at (name_firstupdate name.0 rand.0 value.0) value.1

abbrev pub update_at : List ℕ → Option NameOperation
update_at bytes = do
  name ← push_at bytes
  value ← push_at name.1
  dropped_at (name_update name.0 value.0) value.1

-- the operation of a name script, or None where the script is none
unfoldable pub name_op : List ℕ → Option NameOperation
name_op [] = None
name_op (opcode ∷ bytes) =
    if opcode == 0x51 then new_at bytes
    else (if opcode == 0x52 then firstupdate_at bytes
    else (if opcode == 0x53 then update_at bytes else None))
