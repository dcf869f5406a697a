-- a list, and the number of items that it has room for besides
use Rattle.std.specs.Prelude.{ℕ, List}

pub record Roomy (T : Type 0) : Type 0 where
  pub items : List T
  pub spare : ℕ
