-- Of a list: its first item, and whether there are more.
use Rattle.std.specs.Prelude.{List, [], ◌∷◌}
use Rattle.name_rules.specs.declared.found.Found.{Found}
use Rattle.name_rules.specs.declared.found.Found.TheVariants.{Nothing, One, More}

-- a list of as many, up to two, with the same first item
abbrev pub listed : {T : Type 0} → Found T → List T
listed Nothing = []
listed (One item) = item ∷ []
listed (More item) = item ∷ item ∷ []

-- with one item more, behind these
abbrev pub with_item : {T : Type 0} → Found T → T → Found T
with_item Nothing item = One item
with_item (One first) item = More first
with_item (More first) item = More first

-- the first item, twice where there are more
abbrev pub shortened : {A : Type 0} → List A → List A
shortened [] = []
shortened (item ∷ []) = item ∷ []
shortened (item ∷ next ∷ items) = item ∷ item ∷ []
