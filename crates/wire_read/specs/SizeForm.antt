-- The forms of a compact size ("Variable length integer" of Bitcoin's formats).
use Rattle.std.specs.Prelude.{◌≡◌, ℕ, ◌<◌, ◌^◌, ◌==◌, if◌then◌else◌, List, [], ◌∷◌, ◌++◌}
use Rattle.std.specs.Int.{Width, w16, w32, w64, to_le_bytes}

-- how many bytes the form takes that the first byte begins: 2, 4 or 8 behind FD, FE or FF, and else none
unfoldable pub form_length : List ℕ → ℕ
form_length [] = 1
form_length (first ∷ rest) =
    if first == 0xFD then 3
    else (if first == 0xFE then 5
    else (if first == 0xFF then 9 else 1))

-- behind the mark stands a number that a shorter form holds, low byte first
pub record HoldsLess (mark : ℕ) (width : Width) (least : ℕ) (bytes : List ℕ) : Type 0 where
  pub number : ℕ
  pub less : number < least
  pub rest : List ℕ
  pub text : bytes ≡ mark ∷ (to_le_bytes width number ++ rest)

-- a longer form of so many bytes stands at the front, and a shorter form holds its number
pub data IsLongForm (bytes : List ℕ) (len : ℕ) : Type 0 where
  three_bytes : HoldsLess 0xFD w16 0xFD bytes → len ≡ 3 → IsLongForm bytes len
  five_bytes : HoldsLess 0xFE w32 (2 ^ 16) bytes → len ≡ 5 → IsLongForm bytes len
  nine_bytes : HoldsLess 0xFF w64 (2 ^ 32) bytes → len ≡ 9 → IsLongForm bytes len
