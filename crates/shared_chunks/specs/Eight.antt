-- The first bytes as one number.
use Rattle.std.specs.Prelude.{ℕ, zero, suc, ◌+◌, ◌*◌, ◌-◌, ◌^◌, List, [], ◌∷◌, cond, nat_lt}

-- the first n bytes, the first one heaviest, and 0 for those that lack. What is no byte counts as the greatest
abbrev pub number : ℕ → List ℕ → ℕ
number zero bs = 0
number (suc n) [] = 0
number (suc n) (b ∷ bs) = cond (nat_lt b 256) (b * 256 ^ n + number n bs) (256 ^ (suc n) - 1)
