-- The readers of the parts of an undo record, in each version of the text: what was read and the bytes after it; or the kind of the first fault, and
-- the bytes from its place on.
use Rattle.std.specs.Prelude.{ℕ, zero, suc, ◌==◌, Bool, true, false, nat_lt, nat_le, if◌then◌else◌, List, [], ◌∷◌, length, take, drop, Option, Some, None, Ok, Err}
use Rattle.std.specs.Int.{Width, w16, w32, byte_len, from_le_bytes}
use Rattle.std.specs.declared.cmp.Ordering.{Ordering}
use Rattle.std.specs.declared.cmp.Ordering.TheVariants.{Less, Equal, Greater}
use Rattle.nmc_base.specs.declared.limits.TheConstants.{DIGEST_LENGTH, LONGEST_VALUE}
use Rattle.nmc_base.specs.declared.hashes.OutPoint.{OutPoint}
use Rattle.nmc_base.specs.Hash.{outpoint_cmp}
use Rattle.chain_names.specs.declared.coin.Coin.{Coin}
use Rattle.chain_names.specs.declared.coin.Coin.TheVariants.{New, Named}
use Rattle.chain_names.specs.declared.coin.HeldCoin.{HeldCoin}
use Rattle.chain_names.specs.declared.coin.Item.{Item}
use Rattle.chain_names.specs.declared.undo.UndoOp.{UndoOp}
use Rattle.chain_names.specs.declared.undo.UndoOp.TheVariants.{New as op_new, First, Update}
use Rattle.chain_names.specs.Undo.{UndoRecord}
use Rattle.block_grammar.specs.Combinators.{◌>>=◌, Reader, then_from, map_from, many_from}
use Rattle.undo_records.specs.declared.fault.FaultKind.{FaultKind}
use Rattle.undo_records.specs.declared.fault.FaultKind.TheVariants.{Cut, BadTag, Unsorted}
use Rattle.chain_names.specs.Writable.{Change, change_of}
use Rattle.undo_records.specs.declared.version.Version.{Version}
use Rattle.undo_records.specs.declared.version.Version.TheVariants.{One, Two}

abbrev pub Reads : Type 0 → Type 0
Reads A = Reader FaultKind A

-- ---- fields

-- a number of so many bits, low byte first
abbrev pub number_from : Width → Reads ℕ
number_from w bytes = if nat_lt (length bytes) (byte_len w) then Err (Cut, []) else Ok (from_le_bytes w (take (byte_len w) bytes), drop (byte_len w) bytes)

-- so many bytes
abbrev pub piece_from : ℕ → Reads (List ℕ)
piece_from n bytes = if nat_lt (length bytes) n then Err (Cut, []) else Ok (take n bytes, drop n bytes)

-- what stands behind a byte that must be this one
abbrev pub tagged_from : {A : Type 0} → ℕ → Reads A → Reads A
tagged_from tag read [] = Err (Cut, [])
tagged_from tag read (first ∷ rest) = if first == tag then read rest else Err (BadTag, first ∷ rest)

-- a length in one byte
abbrev pub byte_from : Reads ℕ
byte_from [] = Err (Cut, [])
byte_from (first ∷ rest) = Ok (first, rest)

-- a name behind its length
unfoldable pub name_from : Reads (List ℕ)
name_from = map_from (λ x. x.1) (then_from byte_from piece_from)

-- a value that passes a test: where it doesn't, the fault of this kind stands at its first byte
abbrev pub checked_from : {A : Type 0} → FaultKind → (A → Bool) → Reads A → Reads A
checked_from kind test read bytes = do
  x ← read bytes
  if test x.0 then Ok x else Err (kind, bytes)

-- the length of a value, which has a limit
unfoldable pub value_length_from : Reads ℕ
value_length_from = checked_from BadTag (λ n. nat_le n LONGEST_VALUE) (number_from w16)

unfoldable pub value_from : Reads (List ℕ)
value_from = map_from (λ x. x.1) (then_from value_length_from piece_from)

unfoldable pub point_from : Reads OutPoint
point_from = map_from (λ x. record { txid = record { 0 = x.0 }; index = x.1 }) (then_from (piece_from 32) (λ _. number_from w32))

-- ---- coins and items

unfoldable pub new_coin_from : Reads Coin
new_coin_from = tagged_from 1 (map_from (λ x. New (record { 0 = x.1 }) x.0) (then_from (number_from w32) (λ _. piece_from DIGEST_LENGTH)))

unfoldable pub named_coin_from : Reads Coin
named_coin_from = tagged_from 2 (map_from (λ x. Named x.1 x.0) (then_from (number_from w32) (λ _. name_from)))

-- a registration height, which version 1 leaves out: it is read with 0
abbrev pub registered_from : Version → Reads ℕ
registered_from One bytes = Ok (0, bytes)
registered_from Two bytes = number_from w32 bytes

unfoldable pub item_from : Version → Reads Item
item_from version = map_from (λ x. record { height = x.0; registered = x.1.0; at = x.1.1.0; value = x.1.1.1 })
    (then_from (number_from w32) (λ _. then_from (registered_from version) (λ _. then_from point_from (λ _. value_from))))

-- the item before, if there was one
unfoldable pub before_from : Version → Reads (Option Item)
before_from version [] = Err (Cut, [])
before_from version (first ∷ rest) =
    if first == 0 then Ok (None, rest)
    else (if first == 1 then map_from (λ item. Some item) (item_from version) rest
    else Err (BadTag, first ∷ rest))

-- ---- operations

-- a change that spends a coin of this kind
unfoldable pub change_from : Version → Reads Coin → Reads Change
change_from version coin_from = map_from (λ x. change_of x.0 x.1.0 x.1.1.0 x.1.1.1.0 x.1.1.1.1)
    (then_from point_from (λ _. then_from point_from (λ _. then_from coin_from (λ _. then_from name_from (λ _. before_from version)))))

abbrev pub first_of : Change → UndoOp
first_of c = First c.made c.spent c.coin c.name c.before

abbrev pub update_of : Change → UndoOp
update_of c = Update c.made c.spent c.coin c.name c.before

unfoldable pub op_from : Version → Reads UndoOp
op_from version [] = Err (Cut, [])
op_from version (first ∷ rest) =
    if first == 0x51 then map_from (λ point. op_new point) point_from rest
    else (if first == 0x52 then map_from first_of (change_from version new_coin_from) rest
    else (if first == 0x53 then map_from update_of (change_from version named_coin_from) rest
    else Err (BadTag, first ∷ rest)))

-- operations behind their number
unfoldable pub ops_from : Version → Reads (List UndoOp)
ops_from version = map_from (λ x. x.1) (then_from (number_from w32) (many_from (op_from version)))

-- ---- expired coins

abbrev pub is_less : Ordering → Bool
is_less Less = true
is_less Equal = false
is_less Greater = false

abbrev pub is_after : Option OutPoint → OutPoint → Bool
is_after None point = true
is_after (Some last) point = is_less (outpoint_cmp last point)

-- an outpoint that is greater than the one before, if there is one
unfoldable pub later_point_from : Option OutPoint → Reads OutPoint
later_point_from last = checked_from Unsorted (is_after last) point_from

-- a coin of a name behind such an outpoint
unfoldable pub held_from : Option OutPoint → Reads HeldCoin
held_from last = map_from (λ x. record { at = x.0; coin = x.1 }) (then_from (later_point_from last) (λ _. named_coin_from))

-- so many coins, each behind a greater outpoint than the one before
unfoldable pub coins_from : Option OutPoint → ℕ → Reads (List HeldCoin)
coins_from last zero bytes = Ok ([], bytes)
coins_from last (suc n) bytes = map_from (λ x. x.0 ∷ x.1) (then_from (held_from last) (λ held. coins_from (Some held.at) n)) bytes

-- expired coins behind their number
unfoldable pub expired_from : Reads (List HeldCoin)
expired_from = map_from (λ x. x.1) (then_from (number_from w32) (coins_from None))

-- ---- the record

unfoldable pub undo_from : Version → Reads UndoRecord
undo_from version = map_from (λ x. record { block = record { 0 = x.0 }; ops = x.1.0; expired = x.1.1 })
    (then_from (piece_from 32) (λ _. then_from (ops_from version) (λ _. expired_from)))
