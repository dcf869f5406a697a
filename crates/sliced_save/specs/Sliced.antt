-- A text that is given out in slices.
use Rattle.std.specs.Prelude.{ℕ, List}

pub record Sliced : Type 0 where
  -- the whole text
  pub text : List ℕ
  -- how many of its bytes were given out
  pub given : ℕ

-- while it is given out
pub record Giving : Type 0 where
  -- the whole text
  pub text : List ℕ
  -- what is left of it
  pub rest : List ℕ
