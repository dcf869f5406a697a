-- What contracts see of a pile: its items in order, and how deep its nodes go.
use Rattle.std.specs.Prelude.{◌≡◌, ℕ, zero, suc, ◌+◌, ◌<◌, List, [], ◌∷◌, ◌++◌, length}

pub record Heap (T : Type 0) : Type 0 where
  pub items : List T
  pub depth : ℕ

-- no item
abbrev pub empty : {T : Type 0} → Heap T
empty = record { items = []; depth = 0 }

-- an item between two
abbrev pub joined : {T : Type 0} → Heap T → T → Heap T → Heap T
joined left item right = record { items = left.items ++ item ∷ right.items; depth = left.depth + 1 }

-- the list with the item at the place, or behind the last
abbrev pub placed : {T : Type 0} → List T → ℕ → T → List T
placed [] i item = item ∷ []
placed (x ∷ xs) zero item = item ∷ xs
placed (x ∷ xs) (suc i) item = x ∷ placed xs i item

-- it has the item at the place, and is as deep as before where that isn't behind the last
pub record Places {T : Type 0} (old new : Heap T) (i : ℕ) (item : T) : Type 0 where
  pub items : new.items ≡ placed old.items i item
  pub depth : i < length old.items → new.depth ≡ old.depth
