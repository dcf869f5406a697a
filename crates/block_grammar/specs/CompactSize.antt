-- Numbers, byte strings and lists of Bitcoin's block format ("Variable length integer", "var_str").
use Rattle.std.specs.Prelude.{◌≡◌, ℕ, ◌<◌, ◌^◌, List, [], ◌∷◌, ◌++◌, length, nat_lt, if◌then◌else◌}
use Rattle.std.specs.List.{flat_map}
use Rattle.std.specs.Int.{w16, w32, w64, to_le_bytes}

-- A number below FD is one byte. Above it stand FD, FE or FF and 2, 4 or 8 bytes, low byte first, in the
-- shortest form that holds it.
unfoldable pub compact_size : ℕ → List ℕ
compact_size n =
    if nat_lt n 0xFD then n ∷ []
    else (if nat_lt n (2 ^ 16) then 0xFD ∷ to_le_bytes w16 n
    else (if nat_lt n (2 ^ 32) then 0xFE ∷ to_le_bytes w32 n
    else 0xFF ∷ to_le_bytes w64 n))

-- the bytes are the compact size of the number
pub record IsCompactSize (bytes : List ℕ) (n : ℕ) : Type 0 where
  pub fits : n < 2 ^ 64
  pub text : bytes ≡ compact_size n

-- bytes behind their number
abbrev pub counted : List ℕ → List ℕ
counted bytes = compact_size (length bytes) ++ bytes

-- a list behind its number
abbrev pub counted_list : {A : Type 0} → (A → List ℕ) → List A → List ℕ
counted_list text items = compact_size (length items) ++ flat_map text items
