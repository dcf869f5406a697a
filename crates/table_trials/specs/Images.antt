-- What is known of the parts of an image that a trial makes.
use Rattle.std.specs.Prelude.{ℕ, ◌≤◌, List, length}
use Rattle.std.specs.List.{AllByRecursion}
use Rattle.chain_names.specs.declared.undo.Undo.{Undo}
use Rattle.chain_names.specs.Limits.{IsWithinLimits}
use Rattle.chain_names.specs.Seen.{seen_undo}
use Rattle.chain_names.specs.State.{FitsItem}
use Rattle.chain_names.specs.Tables.{NameSlots, names_in}

-- names and values are within their lengths
abbrev pub AreShort : NameSlots → Type 0
AreShort slots = (name : List ℕ) → AllByRecursion (FitsItem name) (names_in slots name)

-- a record of one operation and one expired coin at most
pub record IsSmallRecord (undo : Undo) : Type 0 where
  pub limits : IsWithinLimits (seen_undo undo)
  pub ops : length undo.ops.items ≤ 1
  pub expired : length undo.expired.items ≤ 1
