-- The sources of the entries under a label, while they are joined.
use Rattle.std.specs.Prelude.{◌≡◌, ℕ, ◌+◌, ◌≤◌, List, ◌++◌, length, take, drop}
use Rattle.std.specs.List.{All}
use Rattle.serde_json.specs.Data.{Members}
use Rattle.import_expand.specs.Sources.{Live, under}
use Rattle.import_expand.specs.Books.{objects, IsAt, Shows}
use Rattle.import_expand.specs.declared.book.Book.{Book}
use Rattle.import_expand.specs.declared.told.Joining.{Joining}
use Rattle.import_expand.specs.declared.told.Told.{Told}

-- what an object added stands there, among the sources that were found
pub record IsTold (live : Live) (os : List Members) (label : List ℕ) (ms : List Members) (t : Told) : Type 0 where
  pub of : Members
  pub is_of : IsAt os t.of of
  pub within : t.first + t.count ≤ length ms
  pub is : take t.count (drop t.first ms) ≡ under live label of

abbrev pub AreTold : Live → List Members → List ℕ → List Members → List Told → Type 0
AreTold live os label ms told = All (IsTold live os label ms) told

-- these sources were found
pub record IsJoined (live : Live) (os : List Members) (label : List ℕ) (j : Joining) (ms : List Members) : Type 0 where
  pub shown : Shows os j.found.items ms
  pub told : AreTold live os label ms j.told.items

-- the sources of an object's entry under a label join those that were found, as far as there is room
abbrev pub AddsUnder : Live → List ℕ → ℕ → Book → Joining → Book → Joining → Type 0
AddsUnder live label at b j later now = (o : Members) (ms : List Members) → IsAt (objects b) at o → IsJoined live (objects b) label j ms → IsJoined live (objects later) label now (take 256 (ms ++ under live label o))
