-- Digests of the function's publication, so that a wrong constant, step or padding in the definition does
-- not check.
use Rattle.std.proofs.Common.{◌≡◌, [], ◌∷◌, codes, refl}
use Rattle.hash160.specs.Ripemd160.{block_of, chaining_after, compress, ripemd160, steps}

pub digest_of_empty : ripemd160 [] ≡ 156 ∷ 17 ∷ 133 ∷ 165 ∷ 197 ∷ 233 ∷ 252 ∷ 84 ∷ 97 ∷ 40 ∷ 8 ∷ 151 ∷ 126 ∷ 232 ∷ 245 ∷ 72 ∷ 178 ∷ 37 ∷ 141 ∷ 49 ∷ []
unfolding block_of steps compress chaining_after ripemd160
digest_of_empty = refl

pub digest_of_abc : ripemd160 (codes "abc") ≡ 142 ∷ 178 ∷ 8 ∷ 247 ∷ 224 ∷ 93 ∷ 152 ∷ 122 ∷ 155 ∷ 4 ∷ 74 ∷ 142 ∷ 152 ∷ 198 ∷ 176 ∷ 135 ∷ 241 ∷ 90 ∷ 11 ∷ 252 ∷ []
unfolding block_of steps compress chaining_after ripemd160
digest_of_abc = refl

-- 62 bytes, which the padding carries into a second block
pub digest_of_two_blocks : ripemd160 (codes "ABCDEFGHIJKLMNOPQRSTUVWXYZabcdefghijklmnopqrstuvwxyz0123456789") ≡ 176 ∷ 226 ∷ 11 ∷ 110 ∷ 49 ∷ 22 ∷ 100 ∷ 2 ∷ 134 ∷ 237 ∷ 58 ∷ 135 ∷ 165 ∷ 113 ∷ 48 ∷ 121 ∷ 178 ∷ 31 ∷ 81 ∷ 137 ∷ []
unfolding block_of steps compress chaining_after ripemd160
digest_of_two_blocks = refl
