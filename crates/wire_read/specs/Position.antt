-- What a cursor reads, and how far it has come.
use Rattle.std.specs.Prelude.{ℕ, List, drop}

pub record Position : Type 0 where
  pub bytes : List ℕ
  pub at : ℕ

-- the bytes that are still to be read
abbrev pub left : Position → List ℕ
left position = drop position.at position.bytes
