-- Fields at the front of bytes: a value and the bytes after it, or None where the bytes begin with no such value.
use Rattle.std.specs.Prelude.{ℕ, ◌^◌, ◌==◌, nat_lt, if◌then◌else◌, List, [], ◌∷◌, length, take, drop, Option, Some, None}
use Rattle.std.specs.Int.{Width, w16, w32, w64, byte_len, from_le_bytes}

infixl 10 ◌>>=◌
abbrev pub ◌>>=◌ : {A B : Type 0} → Option A → (A → Option B) → Option B
(Some x) >>= f = f x
None >>= f = None

-- a number of so many bits, low byte first
abbrev pub number_at : Width → List ℕ → Option (ℕ × List ℕ)
number_at w bytes = if nat_lt (length bytes) (byte_len w) then None else Some (from_le_bytes w (take (byte_len w) bytes), drop (byte_len w) bytes)

-- so many bytes
abbrev pub piece_at : ℕ → List ℕ → Option (List ℕ × List ℕ)
piece_at n bytes = if nat_lt (length bytes) n then None else Some (take n bytes, drop n bytes)

-- a number that has no shorter form
abbrev pub at_least : ℕ → Option (ℕ × List ℕ) → Option (ℕ × List ℕ)
at_least least None = None
at_least least (Some x) = if nat_lt x.0 least then None else Some x

-- a compact size of the shortest form
unfoldable pub compact_size_at : List ℕ → Option (ℕ × List ℕ)
compact_size_at [] = None
compact_size_at (first ∷ rest) =
    if nat_lt first 0xFD then Some (first, rest)
    else (if first == 0xFD then at_least 0xFD (number_at w16 rest)
    else (if first == 0xFE then at_least (2 ^ 16) (number_at w32 rest)
    else at_least (2 ^ 32) (number_at w64 rest)))
