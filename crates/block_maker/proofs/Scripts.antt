-- The script of an operation is a name script of it, with pushes of the shortest form.
use Rattle.std.proofs.Common.{◌≡◌, ℕ, ◌<◌, ◌≤◌, ◌^◌, List, [], ◌∷◌, ◌++◌, length, Some, refl, ap, arith, inl, inr}
use Rattle.std.specs.List.{flat_map, AllByRecursion}
use Rattle.std.specs.Int.{w16, to_le_bytes}
use Rattle.std.proofs.lemmas.Bool.{cases_lt, lt-ltb, le-ltb, le-leb, lt-leb}
use Rattle.std.proofs.lemmas.List.{length-append}
use Rattle.name_script.specs.NameScript.{NameOperation, pushed_by, IsPush, op_0, direct, pushdata1, pushdata2, pushdata4, ArePushes, op_2drop, IsNameScript}
use Rattle.name_script.specs.Reading.{name_op}
use Rattle.name_script.proofs.NameScripts.{name_op_again}
use Rattle.name_script.proofs.Pushes.{direct_push}
use Rattle.block_maker.specs.Script.{push_head, shortest_push, IsShortPart, HasShortPushes, pushes_of, script_of}

-- ---- the three heads

direct_head : (n : ℕ) → n ≤ 0x4B → push_head n ≡ n ∷ []
unfolding push_head
direct_head n le = rw (le-leb n 0x4B le) refl

one_byte_head : (n : ℕ) → 0x4B < n → n < 2 ^ 8 → push_head n ≡ 0x4C ∷ n ∷ []
unfolding push_head
one_byte_head n past lt = rw (lt-leb n 0x4B past, lt-ltb n (2 ^ 8) lt) refl

two_byte_head : (n : ℕ) → 2 ^ 8 ≤ n → push_head n ≡ 0x4D ∷ to_le_bytes w16 n
unfolding push_head
two_byte_head n le =
    let past : 0x4B < n = omega arith in
    rw (lt-leb n 0x4B past, le-ltb n (2 ^ 8) le) refl

-- ---- a shortest push is a push

pub shortest_is : (value : List ℕ) → IsShortPart value → IsPush (shortest_push value) value
shortest_is value short =
    elim (cases_lt 0x4B (length value)) [
      | inl past ↦ elim (cases_lt (length value) (2 ^ 8)) [
        | inl lt ↦ pushdata1 lt (ap (λ (x : List ℕ). x ++ value) (one_byte_head (length value) past lt))
        | inr le ↦ pushdata2 (omega (arith, short)) (ap (λ (x : List ℕ). x ++ value) (two_byte_head (length value) le))
      ]
      | inr le ↦ rw (direct_head (length value) le) (direct_push value le)
    ]

are_shortest : (values : List (List ℕ)) → AllByRecursion IsShortPart values → ArePushes values (flat_map shortest_push values)
are_shortest [] all = refl
are_shortest (value ∷ values) all = record {
  push = shortest_push value;
  is_push = shortest_is value all.0;
  after = flat_map shortest_push values;
  holds_after = are_shortest values all.1;
  text = refl;
}

pub script_is : (operation : NameOperation) → HasShortPushes operation → IsNameScript (script_of operation) operation
unfolding script_of
script_is operation short = record {
  pushes = flat_map shortest_push (pushed_by operation);
  are_pushes = are_shortest (pushed_by operation) short;
  drop = 0x6D;
  is_drop = op_2drop refl;
  rest = 0x51 ∷ [];
  text = refl;
}

pub script_is_at : (script : List ℕ) (operation : NameOperation) → HasShortPushes operation → script ≡ pushes_of operation ++ (0x6D ∷ 0x51 ∷ []) → IsNameScript script operation
unfolding script_of
script_is_at script operation short text = rw text (script_is operation short)

pub script_read : (operation : NameOperation) → HasShortPushes operation → name_op (script_of operation) ≡ Some operation
script_read operation short = name_op_again (script_of operation) operation (script_is operation short)

-- ---- no push of the value is shorter

head_length : (n : ℕ) → length (push_head n) ≤ 3
head_length n =
    elim (cases_lt 0x4B n) [
      | inl past ↦ elim (cases_lt n (2 ^ 8)) [
        | inl lt ↦ rw (one_byte_head n past lt) (omega arith)
        | inr le ↦ rw (two_byte_head n le) (omega arith)
      ]
      | inr le ↦ rw (direct_head n le) (omega arith)
    ]

short_head_length : (n : ℕ) → n < 2 ^ 8 → length (push_head n) ≤ 2
short_head_length n lt =
    elim (cases_lt 0x4B n) [
      | inl past ↦ rw (one_byte_head n past lt) (omega arith)
      | inr le ↦ rw (direct_head n le) (omega arith)
    ]

pub shortest : (value bytes : List ℕ) → IsPush bytes value → length (shortest_push value) ≤ length bytes
shortest value bytes (op_0 empty text) = rw (text, empty, direct_head 0 (omega arith)) (omega arith)
shortest value bytes (direct some le text) = rw (text, direct_head (length value) le) (omega arith)
shortest value bytes (pushdata1 lt text) = rw text (omega (arith, short_head_length (length value) lt, length-append (push_head (length value)) value))
shortest value bytes (pushdata2 lt text) = rw text (omega (arith, head_length (length value), length-append (push_head (length value)) value, length-append (to_le_bytes w16 (length value)) value))
shortest value bytes (pushdata4 lt text) = rw text (omega (arith, head_length (length value), length-append (push_head (length value)) value))
