-- Names are kept as vectors of bytes; contracts see the bytes.
use Rattle.std.specs.Prelude.{ℕ, List, map}
use Rattle.std.specs.declared.vec.Vec.{Vec}

-- the entries by the bytes of their keys
abbrev pub by_bytes : {A V : Type 0} → List (Vec ℕ A × V) → List (List ℕ × V)
by_bytes entries = map (λ e. (e.0.items, e.1)) entries
