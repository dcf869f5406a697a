-- The witness of a transaction (BIP 144): for each input a list of byte strings.
use Rattle.std.specs.Prelude.{◌≡◌, ℕ, ◌<◌, ◌^◌, Bool, true, false, List, [], ◌∷◌, length, Option, Some, None, IsTrue}
use Rattle.std.specs.List.{list_any, AllByRecursion}
use Rattle.block_grammar.specs.CompactSize.{counted, counted_list}

-- an input's witness: a counted list of counted byte strings
abbrev pub stack_text : List (List ℕ) → List ℕ
stack_text items = counted_list counted items

abbrev pub FitsItem : List ℕ → Type 0
FitsItem item = length item < 2 ^ 64

pub record FitsStack (stack : List (List ℕ)) : Type 0 where
  pub count : length stack < 2 ^ 64
  pub items : AllByRecursion FitsItem stack

abbrev pub has_item : List (List ℕ) → Bool
has_item [] = false
has_item (item ∷ items) = true

-- one list for each of so many inputs, at least one of them not empty
pub record FitsStacks (inputs : ℕ) (lists : List (List (List ℕ))) : Type 0 where
  pub one_each : length lists ≡ inputs
  pub stacks : AllByRecursion FitsStack lists
  pub some_item : IsTrue (list_any has_item lists)

abbrev pub FitsWitness : ℕ → Option (List (List (List ℕ))) → Type 0
FitsWitness inputs None = Unit {0}
FitsWitness inputs (Some stacks) = FitsStacks inputs stacks
