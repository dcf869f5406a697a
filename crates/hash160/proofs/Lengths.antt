-- A digest has 20 bytes.
use Rattle.std.proofs.Common.{◌≡◌, ℕ, zero, suc, List, [], ◌∷◌, length, slice_index, refl, arith}
use Rattle.std.specs.Int.{w32, to_le_bytes}
use Rattle.std.specs.List.{flat_map}
use Rattle.hash160.specs.Ripemd160.{chaining_after, compress, ripemd160}
use Rattle.hash160.proofs.Absorbing.{chaining_after-suc, chaining_after-zero}

-- a list of five is its items
pub items_of_five : (h : List ℕ) → length h ≡ 5
    → h ≡ slice_index h 0 ∷ slice_index h 1 ∷ slice_index h 2 ∷ slice_index h 3 ∷ slice_index h 4 ∷ []
items_of_five (a ∷ b ∷ c ∷ d ∷ e ∷ []) l = refl
items_of_five (a ∷ b ∷ c ∷ d ∷ e ∷ f ∷ h) l = absurd (omega arith)
items_of_five (a ∷ b ∷ c ∷ d ∷ []) l = absurd (omega arith)
items_of_five (a ∷ b ∷ c ∷ []) l = absurd (omega arith)
items_of_five (a ∷ b ∷ []) l = absurd (omega arith)
items_of_five (a ∷ []) l = absurd (omega arith)
items_of_five [] l = absurd (omega arith)

length-compress : (h block : List ℕ) → length (compress h block) ≡ 5
unfolding compress
length-compress h block = refl

length-chaining_after : (bytes : List ℕ) (n : ℕ) → length (chaining_after bytes n) ≡ 5
length-chaining_after bytes zero = rw (chaining_after-zero bytes) refl
length-chaining_after bytes (suc n) = rw (chaining_after-suc bytes n) (length-compress _ _)

length-five_words : (h : List ℕ) → length h ≡ 5 → length (flat_map (to_le_bytes w32) h) ≡ 20
length-five_words h five = rw (items_of_five h five) refl

pub length-ripemd160 : (message : List ℕ) → length (ripemd160 message) ≡ 20
unfolding ripemd160
length-ripemd160 message = length-five_words _ (length-chaining_after _ _)
