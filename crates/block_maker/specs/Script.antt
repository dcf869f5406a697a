-- The script of an output that holds a name, with pushes of the shortest form.
use Rattle.std.specs.Prelude.{ℕ, ◌≤◌, ◌^◌, nat_le, nat_lt, if◌then◌else◌, List, [], ◌∷◌, ◌++◌, length}
use Rattle.std.specs.List.{flat_map, AllByRecursion}
use Rattle.std.specs.Int.{w16, to_le_bytes}
use Rattle.block_maker.specs.declared.operation.TheConstants.{LONGEST_PART}
use Rattle.name_script.specs.NameScript.{NameOperation, opcode_of, pushed_by}

-- What stands before so many bytes in their shortest push (Bitcoin's "Script", "Constants"): up to 4B, the opcode that is
-- their number, OP_0 for none; else OP_PUSHDATA1 and the number in one byte, or OP_PUSHDATA2 and the number in two bytes,
-- low byte first.
unfoldable pub push_head : ℕ → List ℕ
push_head count =
    if nat_le count 0x4B then count ∷ []
    else (if nat_lt count (2 ^ 8) then 0x4C ∷ count ∷ []
    else 0x4D ∷ to_le_bytes w16 count)

-- a value that isn't too long for a push, in its shortest push
abbrev pub shortest_push : List ℕ → List ℕ
shortest_push value = push_head (length value) ++ value

abbrev pub IsShortPart : List ℕ → Type 0
IsShortPart part = length part ≤ LONGEST_PART

-- each value that the operation pushes has a push
abbrev pub HasShortPushes : NameOperation → Type 0
HasShortPushes operation = AllByRecursion IsShortPart (pushed_by operation)

-- the operation's opcode and its pushes
abbrev pub pushes_of : NameOperation → List ℕ
pushes_of operation = opcode_of operation ∷ flat_map shortest_push (pushed_by operation)

-- The operation's opcode, its pushes, OP_2DROP, and OP_1, a script that everybody can spend.
unfoldable pub script_of : NameOperation → List ℕ
script_of operation = pushes_of operation ++ (0x6D ∷ 0x51 ∷ [])
