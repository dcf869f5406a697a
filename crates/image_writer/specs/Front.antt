-- The first bytes of a key.
use Rattle.std.specs.Prelude.{ℕ, zero, suc, List, [], ◌∷◌}

-- so many bytes of it, with zeros for those that it lacks
abbrev pub padded : ℕ → List ℕ → List ℕ
padded zero bytes = []
padded (suc n) [] = 0 ∷ padded n []
padded (suc n) (byte ∷ bytes) = byte ∷ padded n bytes
