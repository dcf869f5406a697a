-- A row of hashes as lists of bytes.
use Rattle.std.specs.Prelude.{ℕ, List, map}
use Rattle.nmc_base.specs.declared.hashes.Hash32.{Hash32}

abbrev pub seen_row : List Hash32 → List (List ℕ)
seen_row row = map (λ h. h.0) row
