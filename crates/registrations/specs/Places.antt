-- Which places a table has, while items are put into it.
use Rattle.std.specs.Prelude.{◌≡◌, ◌≢◌, ◌⊎◌, ℕ, List, []}
use Rattle.chain_names.specs.Tables.{NameSlots, names_in, name_places}

-- each name has an item now, or else its items and its place are as they were
abbrev pub PlacesFilled : NameSlots → NameSlots → Type 0
PlacesFilled old new =
    (name : List ℕ) → (names_in new name ≢ []) ⊎ ((names_in new name ≡ names_in old name) × (name_places new name ≡ name_places old name))
