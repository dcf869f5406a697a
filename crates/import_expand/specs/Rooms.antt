-- A room: a book, and the nodes that were met, each with a number.
use Rattle.std.specs.Prelude.{◌≡◌, ℕ, ◌+◌, ◌<◌, ◌≤◌, List, [], length, map, slice_get, Some, None, true}
use Rattle.std.specs.List.{All}
use Rattle.serde_json.specs.Data.{Members}
use Rattle.ifa_value.specs.declared.item.Key.TheVariants as key
use Rattle.import_expand.specs.Sources.{Live, sources_of, child_of, entries, first_of}
use Rattle.import_expand.specs.Books as books
use Rattle.import_expand.specs.Books.{objects, IsAt, Shows, Grows}
use Rattle.import_expand.specs.declared.exhausted.Exhausted.{Exhausted}
use Rattle.import_expand.specs.declared.exhausted.Exhausted.TheVariants.{Held}
use Rattle.import_expand.specs.declared.limits.TheConstants.{MOST_HELD}
use Rattle.import_expand.specs.declared.room.Room.{Room}
use Rattle.import_expand.specs.declared.room.Sources.{Sources}
use Rattle.import_expand.specs.declared.room.Child.{Child}
use Rattle.import_expand.specs.declared.room.Top.{Top}

abbrev pub objects_in : Room → List Members
objects_in r = objects r.book

-- the bytes of the values that were read and of the entries that were taken out of them, and one for each source that was asked
abbrev pub held : Room → ℕ
held r = books.held r.book

abbrev pub numbers_of : Sources → List ℕ
numbers_of s = s.numbers.items

-- the numbers of each node's sources, by its own number
abbrev pub nodes_in : Room → List (List ℕ)
nodes_in r = map numbers_of r.nodes.items

-- a node's number: its sources have these numbers, and these are their objects
pub record IsNodeAt (os : List Members) (nodes : List (List ℕ)) (k : ℕ) (ns : List Members) : Type 0 where
  pub numbers : List ℕ
  pub is : slice_get nodes k ≡ Some numbers
  pub shown : Shows os numbers ns

abbrev pub IsNode : Room → ℕ → List Members → Type 0
IsNode r k ns = IsNodeAt (objects_in r) (nodes_in r) k ns

-- What has to be held next doesn't fit: a value that is served, an entry of one, or what a node's sources count that are to be asked for a label.
pub data IsFull (live : Live) (r : Room) : Type 0 where
  by_book : books.IsFull live r.book → IsFull live r
  by_asking : (k : ℕ) (ns : List Members) → IsNode r k ns → MOST_HELD < held r + length ns → IsFull live r

-- no answer is given up but where what has to be held next doesn't fit
abbrev pub GivesUp : Live → Room → Exhausted → Type 0
GivesUp live r e = e ≡ Held → IsFull live r

-- a node that there is, of which no source has an entry under a label
pub record LacksEntry (r : Room) (k : ℕ) (label : List ℕ) : Type 0 where
  pub of : List Members
  pub is : IsNode r k of
  pub none : entries label of ≡ []

-- each number keeps its node
abbrev pub GrowsBy : List (List ℕ) → List (List ℕ) → Type 0
GrowsBy nodes later = (k : ℕ) (numbers : List ℕ) → slice_get nodes k ≡ Some numbers → slice_get later k ≡ Some numbers

-- none of these sources has an item that may end a way down (RFC 1034, 4.3.2, step 3b; RFC 6672, 3.2)
pub record IsPlain (of : List Members) : Type 0 where
  pub ns : first_of key.Ns of ≡ None
  pub translate : first_of key.Translate of ≡ None

-- a node's numbers are those of some objects
pub record IsShown (os : List Members) (s : Sources) : Type 0 where
  pub of : List Members
  pub shown : Shows os s.numbers.items of
  pub plain : s.plain ≡ true → IsPlain of

pub record IsChild (live : Live) (os : List Members) (nodes : List (List ℕ)) (c : Child) : Type 0 where
  pub of : List Members
  pub is_of : IsNodeAt os nodes c.of of
  pub is : IsNodeAt os nodes c.at (child_of live of c.label)

pub record IsTop (live : Live) (os : List Members) (nodes : List (List ℕ)) (t : Top) : Type 0 where
  pub of : Members
  pub is_of : IsAt os t.of of
  pub is : IsNodeAt os nodes t.at (sources_of live 0 of)

-- what a room remembers is so
pub record IsSound (live : Live) (r : Room) : Type 0 where
  pub book : books.IsSound live r.book
  pub nodes : All (IsShown (objects_in r)) r.nodes.items
  pub children : All (IsChild live (objects_in r) (nodes_in r)) r.children.items
  pub tops : All (IsTop live (objects_in r) (nodes_in r)) r.tops.items

-- A later room: what it remembers is so where that was so before, each number keeps its object and its node, and no byte that was counted is lost.
pub record Keeps (r later : Room) : Type 0 where
  pub grows : Grows (objects_in r) (objects_in later)
  pub held : held r ≤ held later
  pub nodes : GrowsBy (nodes_in r) (nodes_in later)
  pub sound : (live : Live) → IsSound live r → IsSound live later

-- a later room, under the values of these names
pub record Later (live : Live) (r later : Room) : Type 0 where
  pub grows : Grows (objects_in r) (objects_in later)
  pub held : held r ≤ held later
  pub nodes : GrowsBy (nodes_in r) (nodes_in later)
  pub sound : IsSound live later

-- What it costs to ask a node's sources for a label: nothing where it is remembered what comes of it; else each of them counts.
pub data CountsAsked (r later : Room) (ns : List Members) : Type 0 where
  remembered : later ≡ r → CountsAsked r later ns
  asked : held r + length ns ≤ held later → CountsAsked r later ns
