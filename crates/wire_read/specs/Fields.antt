-- What reading a field says of the cursor before and after it.
use Rattle.std.specs.Prelude.{◌≡◌, ℕ, ◌+◌, ◌-◌, ◌<◌, ◌≤◌, ◌^◌, ◌++◌, length, Some, None, Result, Ok, Err}
use Rattle.block_grammar.specs.CompactSize.{compact_size}
use Rattle.block_grammar.specs.Fields.{compact_size_at}
use Rattle.wire_read.specs.Position.{Position, left}
use Rattle.wire_read.specs.SizeForm.{form_length, IsLongForm}
use Rattle.wire_read.specs.declared.cursor.WireFault.{WireFault}
use Rattle.wire_read.specs.declared.cursor.WireFault.TheVariants.{Cut, LongForm}

-- n bytes were left, and the cursor stands behind them
pub record Passed (old new : Position) (n : ℕ) : Type 0 where
  pub enough : old.at + n ≤ length old.bytes
  pub moved : new ≡ record { bytes = old.bytes; at = old.at + n }

-- Fewer than n bytes are left. The place is the input's length, and the cursor hasn't moved.
pub record FellShort (old new : Position) (n : ℕ) (fault : WireFault) : Type 0 where
  pub fewer : length old.bytes < old.at + n
  pub place : fault ≡ Cut (length old.bytes)
  pub unmoved : new ≡ old

-- a compact size stands where the cursor stood, and the cursor stands behind it
pub record PassedSize (old new : Position) (number : ℕ) : Type 0 where
  pub passed : Passed old new (length (compact_size number))
  pub fits : number < 2 ^ 64
  pub text : left old ≡ compact_size number ++ left new

-- A longer form of len bytes holds a number that a shorter one holds. The place is the form's last byte, and the
-- cursor hasn't moved.
pub record MetLongForm (old new : Position) (len place : ℕ) : Type 0 where
  pub long : IsLongForm (left old) len
  pub place_is : place ≡ old.at + (len - 1)
  pub unmoved : new ≡ old

abbrev pub GivesSize : Position → Position → Result ℕ WireFault → Type 0
GivesSize old new (Ok number) = PassedSize old new number
GivesSize old new (Err (Cut place)) = FellShort old new (form_length (left old)) (Cut place)
GivesSize old new (Err (LongForm place)) = MetLongForm old new (form_length (left old)) place

-- the whole form is there, and it is no compact size
pub record MissedSize (old new : Position) (place : ℕ) : Type 0 where
  pub enough : old.at + form_length (left old) ≤ length old.bytes
  pub unread : compact_size_at (left old) ≡ None
  pub place_is : place ≡ old.at + (form_length (left old) - 1)
  pub unmoved : new ≡ old

abbrev pub GivesSizeExactly : Position → Position → Result ℕ WireFault → Type 0
GivesSizeExactly old new (Ok number) =
    Passed old new (form_length (left old)) × (compact_size_at (left old) ≡ Some (number, left new))
GivesSizeExactly old new (Err (Cut place)) = FellShort old new (form_length (left old)) (Cut place)
GivesSizeExactly old new (Err (LongForm place)) = MissedSize old new place
