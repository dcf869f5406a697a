-- What closed sessions and ended saves alone held: how much of it goes at an event.
use Rattle.std.specs.Prelude.{◌≡◌, ℕ, suc, ◌+◌, ◌<◌, ◌≤◌, List, [], ◌∷◌}
use Rattle.name_lister.specs.Event.{ListEvent, Plain, Open, Page, Close, Begin, Slice}
use Rattle.name_lister.specs.declared.leavings.Leaving.{Leaving}
use Rattle.name_lister.specs.declared.leavings.Leaving.TheVariants.{Coins, Names}
use Rattle.name_lister.specs.declared.leavings.TheConstants.{LET_GO_AT_ONCE}

-- the parts that are left of a map below its top
abbrev pub parts_of : Leaving → ℕ
parts_of (Coins parts) = parts
parts_of (Names parts) = parts

-- the parts of all, the top of each counted
abbrev pub total : List Leaving → ℕ
total [] = 0
total (leaving ∷ rest) = suc (parts_of leaving) + total rest

-- So few go at once; and some do, until none is left.
pub record LetsSomeGo (old new : List Leaving) : Type 0 where
  pub few : total old ≤ total new + LET_GO_AT_ONCE
  pub fewer : 0 < total old → total new < total old

-- what an event adds to those that were left: a close what the session alone held, a slice what the save did, and no other anything
abbrev pub Adds : ListEvent → List Leaving → List Leaving → Type 0
Adds (Plain event) left new = new ≡ left
Adds Open left new = new ≡ left
Adds (Page number) left new = new ≡ left
Adds (Close number) left new = total left ≤ total new
Adds Begin left new = new ≡ left
Adds (Slice asked) left new = total left ≤ total new

-- At each event some go of what is there before it.
pub record LetsGo (event : ListEvent) (old new : List Leaving) : Type 0 where
  pub left : List Leaving
  pub some : LetsSomeGo old left
  pub behind : Adds event left new
