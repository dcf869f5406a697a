-- A map that is filled key by key.
use Rattle.std.specs.Prelude.{◌≡◌, ℕ, ◌≤◌, Bool, cond, List, length, take}
use Rattle.std.specs.List.{list_any}

-- the first keys of a list have what they are to have, and no other key has anything
pub record IsFilled {K V : Type 0} (same : K → K → Bool) (there : K → V) (none : V) (keys : List K) (here : K → V) (i : ℕ) : Type 0 where
  pub filled : (q : K) → here q ≡ cond (list_any (same q) (take i keys)) (there q) none
  pub within : i ≤ length keys
