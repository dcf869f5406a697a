-- The kinds of frames, with the lengths that their payloads may have; and which of them are read.
use Rattle.std.specs.Prelude.{◌≡◌, ◌⊎◌, ℕ, ◌≤◌, Bool, ◌==◌, ◌&&◌, nat_le, List, [], ◌∷◌}
use Rattle.feed_frames.specs.declared.kinds.Kind.{Kind}
use Rattle.feed_frames.specs.declared.kinds.TheConstants.{KINDS}

-- a row as numbers: the kind, and the least and the greatest length of its payload
abbrev pub numbers_of : Kind → ℕ × ℕ × ℕ
numbers_of row = (row.byte, row.least, row.greatest)

-- one of the rows is so
abbrev pub HasRow : (Kind → Type 0) → List Kind → Type 0
HasRow IsSo [] = ⊥
HasRow IsSo (row ∷ rows) = IsSo row ⊎ HasRow IsSo rows

-- the row is of this kind
abbrev pub IsOfKind : ℕ → Kind → Type 0
IsOfKind kind row = kind ≡ row.byte

-- the row is of this kind, and allows a payload of this length
pub record Allows (kind n : ℕ) (row : Kind) : Type 0 where
  pub of_kind : kind ≡ row.byte
  pub no_shorter : row.least ≤ n
  pub no_longer : n ≤ row.greatest

-- the kinds that are read: those of the table up to this number
abbrev pub IsKind : (kinds kind : ℕ) → Type 0
IsKind kinds kind = (kind ≤ kinds) × HasRow (IsOfKind kind) KINDS

-- the lengths that the payload of such a kind may have
abbrev pub IsLength : (kinds kind n : ℕ) → Type 0
IsLength kinds kind n = (kind ≤ kinds) × HasRow (Allows kind n) KINDS

-- the two as tests
abbrev pub is_of_kind : ℕ → Kind → Bool
is_of_kind kind row = row.byte == kind

abbrev pub allows : ℕ → ℕ → Kind → Bool
allows kind n row = (row.byte == kind) && (nat_le row.least n && nat_le n row.greatest)
