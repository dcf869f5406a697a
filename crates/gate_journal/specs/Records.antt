-- The records of a journal, and a file that begins with an image and has a journal behind it.
use Rattle.std.specs.Prelude.{◌≡◌, ℕ, ◌<◌, ◌^◌, List, ◌++◌, length, take, All}
use Rattle.std.specs.List.{flat_map}
use Rattle.std.specs.Int.{w64, to_le_bytes}
use Rattle.gate_journal.specs.Gate.{ClosedAfter, record_text}

-- the records, one after the other, each behind its open gate
abbrev pub records_text : List (List ℕ) → List ℕ
records_text records = flat_map record_text records

-- a record's length fits its field
abbrev pub Fits : List ℕ → Type 0
Fits record_is = length record_is < 2 ^ 32

-- Behind this front the file has a journal of these records, all of them.
pub record HasRecords (front : List ℕ) (records : List (List ℕ)) (file : List ℕ) : Type 0 where
  pub closed : ClosedAfter (front ++ records_text records) file
  pub fit : All Fits records

-- Behind this front the file has these records, and then the gate at this place, open or closed: what was read so far.
pub record HasRecordsTo (gate : ℕ) (front : List ℕ) (records : List (List ℕ)) (file : List ℕ) : Type 0 where
  pub begins : take gate file ≡ front ++ records_text records
  pub inside : gate < length file
  pub fit : All Fits records

-- the front of a file that begins with an image: the image's length and the image
abbrev pub image_front : List ℕ → List ℕ
image_front image = to_le_bytes w64 (length image) ++ image

-- The file begins with this image and has a journal of these records behind it.
abbrev pub IsArea : List ℕ → List (List ℕ) → List ℕ → Type 0
IsArea image records file = HasRecords (image_front image) records file
