-- Where a run is.
use Rattle.std.specs.Prelude.{ℕ}

-- behind so many rounds of the run of a seed
pub record Place : Type 0 where
  pub seed : ℕ
  pub rounds : ℕ
