-- Bytes that grow.
use Rattle.std.specs.Prelude.{ℕ, ◌+◌, ◌<◌, ◌≤◌, List, length}

-- some bytes were put, and no more than so many
pub record Grows (most : ℕ) (old new : List ℕ) : Type 0 where
  pub some : length old < length new
  pub short : length new ≤ length old + most
