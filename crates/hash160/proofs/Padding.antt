-- The padding is the one that the standard asks for, and there is no other.
use Rattle.std.proofs.Common.{◌≡◌, ℕ, suc, ◌+◌, ◌-◌, ◌*◌, ◌%◌, ◌^◌, List, ◌∷◌, ◌++◌, length, replicate, refl, sym, ap, ◌∙◌, arith, length-append}
use Rattle.std.proofs.lemmas.List.{length-replicate}
use Rattle.std.specs.Prelude.{◌↔◌}
use Rattle.std.specs.Int.{w64, to_le_bytes}
use Rattle.hash160.specs.Ripemd160.{IsDigest, IsPadded, digest_of_padded, padded, ripemd160}

-- a message, the byte 80, some zero bytes and eight more
length-with_zeros : (m : List ℕ) (zeros : ℕ)
    → length (m ++ (0x80 ∷ replicate zeros 0) ++ to_le_bytes w64 (length m * 8 % 2 ^ 64)) ≡ length m + zeros + 9
length-with_zeros m zeros =
    let blank : List ℕ = replicate zeros 0 in
    let marked : List ℕ = 0x80 ∷ blank in
    let bits : List ℕ = to_le_bytes w64 (length m * 8 % 2 ^ 64) in
    let eight : length bits ≡ 8 = refl in
    let one : length marked ≡ suc (length blank) = refl in
    let blanks : length blank ≡ zeros = length-replicate zeros 0 in
    omega (arith, length-append (m ++ marked) bits, length-append m marked, eight, one, blanks)

IsPadded-padded : (m : List ℕ) → IsPadded m (padded m)
IsPadded-padded m =
    let zeros : ℕ = (119 - length m % 64) % 64 in
    record { zeros = zeros; few = omega arith; text = refl; whole = omega (arith, length-with_zeros m zeros) }

padded_unique : (m text : List ℕ) → IsPadded m text → text ≡ padded m
padded_unique m text p =
    let len : length text ≡ length m + p.zeros + 9 = ap length p.text ∙ length-with_zeros m p.zeros in
    let few = p.few in
    let whole = p.whole in
    let zeros : p.zeros ≡ (119 - length m % 64) % 64 = omega (arith, len, few, whole) in
    p.text ∙ ap (λ (z : ℕ). m ++ (0x80 ∷ replicate z 0) ++ to_le_bytes w64 (length m * 8 % 2 ^ 64)) zeros

-- what the standard calls a digest is the digest
pub IsDigest-ripemd160 : (m digest d : List ℕ) → d ≡ ripemd160 m → IsDigest m digest ↔ (digest ≡ d)
unfolding ripemd160
IsDigest-ripemd160 m digest d e = (
  λ is. is.value ∙ ap digest_of_padded (padded_unique m is.text is.is_padded) ∙ sym e,
  λ same. record { text = padded m; is_padded = IsPadded-padded m; value = same ∙ e },
)
