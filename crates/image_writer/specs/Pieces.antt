-- A text is given out in pieces.
use Rattle.std.specs.Prelude.{◌≡◌, ℕ, ◌+◌, ◌<◌, ◌≤◌, List, [], ◌++◌, length, take, drop}

-- A front of the text stands in the buffer from a place on, and its rest is left. None is given only where the buffer is full or
-- nothing is left.
pub record Gives (text rest old new : List ℕ) (at count : ℕ) : Type 0 where
  pub room : at + count ≤ length old
  pub there : count ≤ length text
  pub front : take (at + count) new ≡ take at old ++ take count text
  pub behind : drop (at + count) new ≡ drop (at + count) old
  pub left : rest ≡ drop count text
  pub some : count ≡ 0 → at < length old → text ≡ []
