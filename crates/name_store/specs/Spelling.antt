-- The text that a name's wire form spells: the bytes of its labels, and a dot in the place of each length behind the first
-- and of the 0.
use Rattle.std.specs.Prelude.{ℕ, zero, suc, List, [], ◌∷◌}

-- where so many bytes of a label are left
abbrev pub spelled_from : ℕ → List ℕ → List ℕ
spelled_from left [] = []
spelled_from zero (b ∷ rest) = 46 ∷ spelled_from b rest
spelled_from (suc left) (b ∷ rest) = b ∷ spelled_from left rest

abbrev pub spelled : List ℕ → List ℕ
spelled [] = []
spelled (b ∷ rest) = spelled_from b rest
