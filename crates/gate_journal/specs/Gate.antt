-- A journal in a file: a text, and then a closed gate, whatever stands behind it.
use Rattle.std.specs.Prelude.{◌≡◌, ◌≢◌, ℕ, ◌+◌, ◌<◌, ◌^◌, List, [], ◌∷◌, ◌++◌, length, take, slice_index}
use Rattle.std.specs.Int.{w32, to_le_bytes}

-- the gate byte at this place is open where it is 1, and closed where it is anything else
abbrev pub IsOpen : List ℕ → ℕ → Type 0
IsOpen file gate = slice_index file gate ≡ 1

abbrev pub IsClosed : List ℕ → ℕ → Type 0
IsClosed file gate = slice_index file gate ≢ 1

-- the file begins with this text and a closed gate
pub record ClosedAfter (text file : List ℕ) : Type 0 where
  pub begins : take (length text) file ≡ text
  pub inside : length text < length file
  pub closed : IsClosed file (length text)

-- what stands behind an open gate: the length of the record, and the record. The next gate follows.
abbrev pub behind_gate : List ℕ → List ℕ
behind_gate record_is = to_le_bytes w32 (length record_is) ++ record_is

-- a record in a journal: an open gate, its length and itself
--
--     +------+----------+--------------+------+
--     | 01   | length 4 | head and body| gate |
--     +------+----------+--------------+------+
abbrev pub record_text : List ℕ → List ℕ
record_text record_is = 1 ∷ behind_gate record_is

-- the length field of a record, of the five bytes from its gate on
abbrev pub field_of : List ℕ → List ℕ
field_of start = slice_index start 1 ∷ (slice_index start 2 ∷ (slice_index start 3 ∷ (slice_index start 4 ∷ [])))

-- The record whose open gate stands at this place. Its length field, itself and its next gate lie inside the
-- file, and that gate lies within the limit.
pub record IsRecordAt (file : List ℕ) (gate limit : ℕ) (record_is : List ℕ) : Type 0 where
  pub reads : take (gate + length (record_text record_is)) file ≡ take gate file ++ record_text record_is
  pub fits : length record_is < 2 ^ 32
  pub inside : gate + length (record_text record_is) < length file
  pub within : gate + length (record_text record_is) < limit

-- The gate at this place is open, and behind it stands the length of a record that fits the file and the
-- limit, its next gate included.
pub record IsStartAt (file : List ℕ) (gate limit size : ℕ) : Type 0 where
  pub reads : take (gate + 5) file ≡ take gate file ++ 1 ∷ to_le_bytes w32 size
  pub fits : size < 2 ^ 32
  pub inside : gate + 5 + size < length file
  pub within : gate + 5 + size < limit
