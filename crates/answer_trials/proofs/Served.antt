-- The values that the names of a trial have.
use Rattle.std.proofs.Common.{ℕ, List, Some, None, nat_eq, if◌then◌else◌}
use Rattle.std.specs.Cmp.Lexicographic.{pointwise}
use Rattle.import_expand.specs.Sources.{Live}

-- one name has a value, one isn't served, and all others have one value
abbrev pub serving : List ℕ → List ℕ → List ℕ → List ℕ → Live
serving name value missing other asked = if pointwise nat_eq asked missing then None else if pointwise nat_eq asked name then Some value else Some other
