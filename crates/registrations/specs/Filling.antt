-- The registration heights as they follow from the records: an item that no operation made begins its registration, and so does
-- one that an operation made which opens a name; one that an operation made which updates a name goes on with the registration
-- of the item before it.
use Rattle.std.specs.Prelude.{◌≡◌, ℕ, List, [], ◌∷◌, map, Option, Some, None}
use Rattle.chain_names.specs.declared.coin.Item.{Item}
use Rattle.chain_names.specs.declared.undo.UndoOp.{UndoOp}
use Rattle.chain_names.specs.declared.undo.UndoOp.TheVariants.{New, First, Update}
use Rattle.chain_names.specs.Coins.{with_value}
use Rattle.chain_names.specs.Tables.{NameSlots, names_in, name_places}
use Rattle.chain_names.specs.Undo.{UndoRecord}
use Rattle.registrations.specs.declared.taking.Taken.{Taken}
use Rattle.registrations.specs.Places.{PlacesFilled}
use Rattle.registrations.specs.Told.{Histories}
use Rattle.registrations.specs.Taking.{TakenUndo, name_of, last_at, names_at_base, undos_taken}

-- ---- one item

abbrev pub since : ℕ → Item → Item
since registered item = record { height = item.height; registered = registered; at = item.at; value = item.value }

-- its registration begins with it
abbrev pub begun : Item → Item
begun item = since item.height item

-- its registration began at this height, or begins with it
abbrev pub going_on : Option ℕ → Item → Item
going_on None item = begun item
going_on (Some registered) item = since registered item

abbrev pub going_on_if : Option ℕ → Option Item → Option Item
going_on_if registered None = None
going_on_if registered (Some item) = Some (going_on registered item)

abbrev pub registered_in : Option Item → Option ℕ
registered_in None = None
registered_in (Some item) = Some item.registered

-- ---- one operation, behind histories in which the registration heights stand

-- the registration with which the item goes on that the operation made, where the name's last item before it is of this one
abbrev pub goes_on_with : UndoOp → Option ℕ → Option ℕ
goes_on_with (New made) registered = None
goes_on_with (First made spent coin name before) registered = None
goes_on_with (Update made spent coin name before) registered = registered

-- the operation, in which the item before it is of this registration
abbrev pub op_behind : Option ℕ → UndoOp → UndoOp
op_behind registered (New made) = New made
op_behind registered (First made spent coin name before) = First made spent coin name (going_on_if registered before)
op_behind registered (Update made spent coin name before) = Update made spent coin name (going_on_if registered before)

abbrev pub with_last : Option (List ℕ) → Option Item → Histories → Histories
with_last None item names = names
with_last (Some name) None names = names
with_last (Some name) (Some item) names = with_value names name item

-- the registration height of the name's last item
abbrev pub registered_at : Option (List ℕ) → Histories → Option ℕ
registered_at name names = registered_in (last_at name names)

abbrev pub with_made : Taken → Histories → Histories
with_made t names = with_last (name_of t.op) (going_on_if (goes_on_with t.op (registered_at (name_of t.op) names)) t.item) names

abbrev pub op_with : UndoOp → Histories → UndoOp
op_with op names = op_behind (registered_at (name_of op) names) op

-- ---- operations, from the first to the last

abbrev pub with_all : List Taken → Histories → Histories
with_all [] names = names
with_all (t ∷ ts) names = with_all ts (with_made t names)

abbrev pub ops_with : List Taken → Histories → List UndoOp
ops_with [] names = []
ops_with (t ∷ ts) names = op_with t.op names ∷ ops_with ts (with_made t names)

abbrev pub undo_with : TakenUndo → Histories → UndoRecord
undo_with t names = record { block = t.block; ops = ops_with t.ops names; expired = t.expired }

-- ---- records, from the oldest to the newest, which stands first

abbrev pub all_begun : Histories → Histories
all_begun names = λ name. map begun (names name)

abbrev pub names_with : List TakenUndo → Histories → Histories
names_with [] names = names
names_with (t ∷ ts) names = with_all t.ops (names_with ts names)

abbrev pub undos_with : List TakenUndo → Histories → List UndoRecord
undos_with [] names = []
undos_with (t ∷ ts) names = undo_with t (names_with ts names) ∷ undos_with ts names

-- ---- histories and records, the newest record first

abbrev pub names_filled : List UndoRecord → Histories → Histories
names_filled us names = names_with (undos_taken us names) (all_begun (names_at_base us names))

abbrev pub undos_filled : List UndoRecord → Histories → List UndoRecord
undos_filled us names = undos_with (undos_taken us names) (all_begun (names_at_base us names))

-- ---- tables

-- records are done again, the newest of which stands first
pub record AreDone (old new : NameSlots) (back : List TakenUndo) (us : List UndoRecord) : Type 0 where
  pub names_are : names_in new ≡ names_with back (names_in old)
  pub undos_are : us ≡ undos_with back (names_in old)
  pub places : PlacesFilled old new

-- the registration heights are those that follow from the records, and no place is gone or new
pub record AreFilledBy (old new : NameSlots) (before after : List UndoRecord) : Type 0 where
  pub names_are : names_in new ≡ names_filled before (names_in old)
  pub undos_are : after ≡ undos_filled before (names_in old)
  pub places : name_places new ≡ name_places old
