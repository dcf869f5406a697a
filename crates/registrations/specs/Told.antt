-- Histories and records as a text of version 1 tells them: all but the registration heights.
use Rattle.std.specs.Prelude.{◌≡◌, ℕ, List, map}
use Rattle.chain_names.specs.declared.coin.Item.{Item}
use Rattle.chain_names.specs.Undo.{UndoRecord}
use Rattle.undo_records.specs.Versions.{item_without, without_heights}

-- the items of each name, the oldest first
abbrev pub Histories : Type 0
Histories = List ℕ → List Item

-- the same histories, in which each registration height is 0
abbrev pub names_without : Histories → Histories
names_without names = λ name. map item_without (names name)

-- version 1 tells the same of both
pub record TellSame (names other : Histories) (undos others : List UndoRecord) : Type 0 where
  pub names_told : names_without names ≡ names_without other
  pub undos_told : map without_heights undos ≡ map without_heights others
