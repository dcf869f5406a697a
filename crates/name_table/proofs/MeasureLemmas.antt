-- Histories whose items are as wide as their fields, where one changes.
use Rattle.std.proofs.Common.{◌≡◌, ℕ, zero, suc, ◌-◌, Bool, true, false, cond, List, [], ◌∷◌, length, take, Option, Some, sym, subst}
use Rattle.std.specs.List.{AllByRecursion}
use Rattle.std.specs.Map.{lookup, KeepsOthers}
use Rattle.std.specs.Str.{bytes_eq}
use Rattle.std.specs.declared.vec.Vec.{Vec}
use Rattle.nmc_base.specs.Roomy.{Roomy}
use Rattle.chain_names.specs.declared.coin.Item.{Item}
use Rattle.chain_names.specs.Changes.{without_entry}
use Rattle.chain_names.specs.Points.{changed}
use Rattle.chain_names.specs.Tables.{names_in, items_of}
use Rattle.chain_names.specs.Measured.{IsMeasuredItem, AreItemsMeasured}
use Rattle.name_table.specs.ByBytes.{by_bytes}
use Rattle.name_table.proofs.ByBytesLemmas.{has_bytes, found}
use Rattle.name_table.proofs.Readings.{reads}

items_changed : (names : List ℕ → List Item) (name : List ℕ) (items : List Item) → AreItemsMeasured names → AllByRecursion IsMeasuredItem items
    → AreItemsMeasured (changed bytes_eq names name items)
items_changed names name items all here other = by (bytes_eq name other)
  where
    by : (b : Bool) → AllByRecursion IsMeasuredItem (cond b items (names other))
    by true = here
    by false = all other

module _ {A : Type 0} where
  -- another entry, whose items are measured
  pub measured_reads : (old new : List (Vec ℕ A × Roomy Item)) (name : List ℕ) (entry : Option (Roomy Item))
      → lookup (has_bytes name) new ≡ entry → KeepsOthers (λ x y. bytes_eq x.items y.items) (has_bytes name) old new
      → AreItemsMeasured (names_in (by_bytes old)) → AllByRecursion IsMeasuredItem (items_of entry) → AreItemsMeasured (names_in (by_bytes new))
  measured_reads old new name entry here others all items =
      subst AreItemsMeasured (sym (reads old new name entry here others).names) (items_changed (names_in (by_bytes old)) name (items_of entry) all items)

  -- the items of an entry that is there
  pub measured_entry : (entries : List (Vec ℕ A × Roomy Item)) (name : List ℕ) (history : Roomy Item) → lookup (has_bytes name) entries ≡ Some history
      → AreItemsMeasured (names_in (by_bytes entries)) → AllByRecursion IsMeasuredItem history.items
  measured_entry entries name history is all =
      subst (λ (entry : Option (Roomy Item)). AllByRecursion IsMeasuredItem (items_of entry)) (found name entries (Some history) is) (all name)

all-take : (count : ℕ) (items : List Item) → AllByRecursion IsMeasuredItem items → AllByRecursion IsMeasuredItem (take count items)
all-take zero items all = tt
all-take (suc count) [] all = tt
all-take (suc count) (item ∷ items) all = (all.0, all-take count items all.1)

pub all-without_entry : (items : List Item) → AllByRecursion IsMeasuredItem items → AllByRecursion IsMeasuredItem (without_entry items)
all-without_entry items all = all-take (length items - 1) items all
