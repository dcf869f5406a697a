-- Name scripts: the scripts of outputs that hold a name (Namecoin's consensus rules, CNameScript).
use Rattle.std.specs.Prelude.{◌≡◌, ℕ, ◌<◌, ◌≤◌, ◌^◌, List, [], ◌∷◌, ◌++◌, length}
use Rattle.std.specs.Int.{w16, w32, to_le_bytes}

-- OP_NAME_NEW, which is OP_1, with the hash that it commits to; OP_NAME_FIRSTUPDATE, OP_2, with the name, the
-- salt of its hash, and its value; OP_NAME_UPDATE, OP_3, with the name and its value
pub data NameOperation : Type 0 where
  name_new : (hash : List ℕ) → NameOperation
  name_firstupdate : (name rand value : List ℕ) → NameOperation
  name_update : (name value : List ℕ) → NameOperation

abbrev pub opcode_of : NameOperation → ℕ
opcode_of (name_new hash) = 0x51
opcode_of (name_firstupdate name rand value) = 0x52
opcode_of (name_update name value) = 0x53

-- what the operation pushes, in order
abbrev pub pushed_by : NameOperation → List (List ℕ)
pushed_by (name_new hash) = hash ∷ []
pushed_by (name_firstupdate name rand value) = name ∷ rand ∷ value ∷ []
pushed_by (name_update name value) = name ∷ value ∷ []

-- The bytes are one push of the value (Bitcoin's "Script", "Constants"), of any form that holds it: OP_0; an opcode
-- that is the number of bytes; or OP_PUSHDATA1, 2 or 4 and that number in 1, 2 or 4 bytes, low byte first.
pub data IsPush (bytes value : List ℕ) : Type 0 where
  op_0 : value ≡ [] → bytes ≡ 0x00 ∷ [] → IsPush bytes value
  direct : 0x01 ≤ length value → length value ≤ 0x4B → bytes ≡ length value ∷ value → IsPush bytes value
  pushdata1 : length value < 2 ^ 8 → bytes ≡ 0x4C ∷ length value ∷ value → IsPush bytes value
  pushdata2 : length value < 2 ^ 16 → bytes ≡ 0x4D ∷ (to_le_bytes w16 (length value) ++ value) → IsPush bytes value
  pushdata4 : length value < 2 ^ 32 → bytes ≡ 0x4E ∷ (to_le_bytes w32 (length value) ++ value) → IsPush bytes value

-- bytes that are a push of the value, and then bytes of which something holds
pub record IsPushThen (bytes value : List ℕ) (After : List ℕ → Type 0) : Type 0 where
  pub push : List ℕ
  pub is_push : IsPush push value
  pub after : List ℕ
  pub holds_after : After after
  pub text : bytes ≡ push ++ after

-- the bytes are pushes of these values, one after the other, and nothing else
abbrev pub ArePushes : List (List ℕ) → List ℕ → Type 0
ArePushes [] bytes = bytes ≡ []
ArePushes (value ∷ values) bytes = IsPushThen bytes value (ArePushes values)

-- the opcodes that end the pushes
pub data IsDrop (opcode : ℕ) : Type 0 where
  op_drop : opcode ≡ 0x75 → IsDrop opcode
  op_2drop : opcode ≡ 0x6D → IsDrop opcode
  op_nop : opcode ≡ 0x61 → IsDrop opcode

-- The script is the operation's: its opcode, its pushes and no more, a drop, and then anything.
pub record IsNameScript (script : List ℕ) (operation : NameOperation) : Type 0 where
  pub pushes : List ℕ
  pub are_pushes : ArePushes (pushed_by operation) pushes
  pub drop : ℕ
  pub is_drop : IsDrop drop
  pub rest : List ℕ
  pub text : script ≡ opcode_of operation ∷ (pushes ++ (drop ∷ rest))
